-- Flags of the places of a depth.
use Rattle.std.proofs.Common.{◌≡◌, ℕ, ◌<◌, Bool, false, List, Some, replicate, sym, ◌∙◌}
use Rattle.std.specs.Prelude.{◌==◌, slice_get, slice_index_or}
use Rattle.std.specs.List.{list_any}
use Rattle.std.proofs.lemmas.List.{get_or-replicate}
use Rattle.std.proofs.lemmas.Option.{get_or_from_slice_get, slice_get_within}
use Rattle.sequence.proofs.ListLemmas.{any_map}
use Rattle.rt_flight.specs.Cells.{CellFacts}
use Rattle.rt_flight.specs.Depths.{places_in, IsFlagged}

-- no flag is up
pub none_up : (p : ℕ) → p < 64 → slice_index_or (replicate 64 false) p false ≡ false
none_up p within = get_or-replicate 64 p false false within

-- a flag tells of cells
pub flag_tells : (flags : List Bool) (cells : List CellFacts) (place : ℕ) (stands : Bool)
    → IsFlagged flags (places_in cells) → slice_get flags place ≡ Some stands
    → stands ≡ list_any (λ c. place == c.workspace.place) cells
flag_tells flags cells place stands are found =
    sym (get_or_from_slice_get flags place stands false found)
    ∙ are place (slice_get_within flags place stands found)
    ∙ any_map (λ q. place == q) (λ (c : CellFacts). c.workspace.place) cells
