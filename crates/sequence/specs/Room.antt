-- A list while it is filled.
use Rattle.std.specs.Prelude.{ℕ, List}

-- the items so far, and how many more there is room for
pub record Room (T : Type 0) : Type 0 where
  pub items : List T
  pub room : ℕ
