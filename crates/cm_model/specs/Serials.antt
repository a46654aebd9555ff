-- Serials: each load gives the next, so those of the loaded controllers rise along their list.
use Rattle.std.specs.Prelude.{ℕ, ◌<◌, ◌==◌, List, [], ◌∷◌, map}
use Rattle.std.specs.List.{AllByRecursion, IsDistinct}
use Rattle.cm_model.specs.State.{State, Loaded}

-- the serials of loaded controllers
abbrev pub serials_of : List Loaded → List ℕ
serials_of loaded = map (λ l. l.serial) loaded

-- each number is below all that stand behind it
abbrev pub AreRising : List ℕ → Type 0
AreRising [] = Unit {0}
AreRising (n ∷ ns) = AllByRecursion (λ later. n < later) ns × AreRising ns

-- Serials rise, so that none stands twice, and each is below the number of loads.
pub record AreNumbered (loads : ℕ) (serials : List ℕ) : Type 0 where
  pub rising : AreRising serials
  pub once : IsDistinct (λ m n. m == n) serials
  pub below : AllByRecursion (λ n. n < loads) serials

abbrev pub IsNumbered : State → Type 0
IsNumbered s = AreNumbered s.loads (serials_of s.loaded)
