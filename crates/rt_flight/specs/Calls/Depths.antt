-- What is left where depths are put down, and where the cells of a depth are counted.
use Rattle.std.specs.Prelude.{◌≡◌, ℕ, List, [], ◌∷◌}
use Rattle.std.specs.List.{AllByRecursion}
use Rattle.switch_plan.specs.Relations.{Related}
use Rattle.rt_flight.specs.Cells.{CellFacts}
use Rattle.rt_flight.specs.Depths.{depths_of, places_in, AreDeepened, RanksDepths}

-- The cells are the same but for their depths, which are the ranks of their places; and so many depths there are.
pub record PutsDepths (related : Related) (cells cells' : List CellFacts) (depths : ℕ) : Type 0 where
  pub ranked : (rank_of : ℕ → ℕ) → RanksDepths related rank_of (places_in cells)
      → AllByRecursion (λ c. c.depth ≡ rank_of c.workspace.place) cells'
  pub same : AreDeepened cells cells'
  pub count : depths ≡ depths_of cells'

-- the first of these, if there is one, stands in another depth
abbrev pub StartsElsewhere : ℕ → List CellFacts → Type 0
StartsElsewhere depth [] = Unit {0}
StartsElsewhere depth (c ∷ cs) = c.depth ≡ depth → ⊥
