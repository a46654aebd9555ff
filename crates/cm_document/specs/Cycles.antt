-- Lists of cycles.
use Rattle.std.specs.Prelude.{◌≡◌, ℕ, ◌==◌, Bool, List}
use Rattle.std.specs.List.{list_any}
use Rattle.std.specs.List.Sorted.{IsNonDecreasing}
use Rattle.cm_document.specs.declared.cycles.CycleLists.{CycleLists}

-- The cycle is among these, in whatever order they stand.
abbrev pub is_listed : List ℕ → ℕ → Bool
is_listed these cycle = list_any (λ each. each == cycle) these

-- the same cycles are listed
pub record ListsSame (these those : List ℕ) : Type 0 where
  pub at : (cycle : ℕ) → is_listed these cycle ≡ is_listed those cycle

-- The cycles that are looked up ascend, and are those that are listed.
pub record LooksUp (lists : CycleLists) : Type 0 where
  pub ascend : IsNonDecreasing lists.ascending.items
  pub same : ListsSame lists.ascending.items lists.listed.items
