-- The calls that a source or a sink in memory is told to fail.
use Rattle.std.specs.Prelude.{ℕ, ◌==◌, List, Bool}
use Rattle.std.specs.List.{list_any}

-- The call of this number, counted from 0, is among those that are to fail.
abbrev pub is_listed : List ℕ → ℕ → Bool
is_listed fails call = list_any (λ listed. listed == call) fails
