-- What is said of the values that a lock keeps, and of the lists that they keep.
use Rattle.std.specs.Prelude.{ℕ, List, filter, ◌==◌}
use Rattle.turn_lock.specs.declared.kept.Shown.{Shown}
use Rattle.turn_lock.specs.declared.kept.Shown.TheVariants.{Cycles, Tickets}

-- of two, the one of the cycles or of the tickets
abbrev pub pick : {A : Type 0} → Shown → A → A → A
pick Cycles a b = a
pick Tickets a b = b

-- the entries of one number, in order
abbrev pub of : {E : Type 0} → (E → ℕ) → ℕ → List E → List E
of caller n xs = filter (λ e. caller e == n) xs
