-- The depths of the cells of a flight: how deep each stands among the running controllers, and how many there are.
use Rattle.std.specs.Prelude.{◌≡◌, ℕ, suc, ◌+◌, ◌<◌, ◌≤◌, ◌^◌, ◌==◌, max, Bool, true, false}
use Rattle.std.specs.Prelude.{List, [], ◌∷◌, map, length, slice_index_or}
use Rattle.std.specs.List.{AllByRecursion, Contains, list_any}
use Rattle.cm_model.specs.Components.{is_listed}
use Rattle.chain_order.specs.Links.{linked}
use Rattle.switch_plan.specs.Relations.{Related}
use Rattle.rt_flight.specs.Cells.{CellFacts, precedes_in}

-- One more than the greatest depth of these; 0 if there is none.
abbrev pub depths_of : List CellFacts → ℕ
depths_of [] = 0
depths_of (c ∷ cs) = max (suc c.depth) (depths_of cs)

-- These stand by depth, and of one depth none precedes a later one.
abbrev pub IsLayered : Related → List CellFacts → Type 0
IsLayered related [] = Unit {0}
IsLayered related (c ∷ cs) =
    AllByRecursion (λ d. (c.depth ≤ d.depth) × (c.depth ≡ d.depth → precedes_in related c d ≡ false)) cs
    × IsLayered related cs

-- These are the same cells, but for their depths.
abbrev pub AreDeepened : List CellFacts → List CellFacts → Type 0
AreDeepened [] [] = Unit {0}
AreDeepened (c ∷ cs) (d ∷ ds) = (d ≡ record c { depth = d.depth }) × AreDeepened cs ds
AreDeepened _ _ = ⊥

-- Of each place that has one of these flags, the flag says whether it is one of these places.
abbrev pub IsFlagged : List Bool → List ℕ → Type 0
IsFlagged flags ps = (p : ℕ) → p < length flags → slice_index_or flags p false ≡ list_any (λ q. p == q) ps

-- ---- Where depths come from

-- the places of these in the description
abbrev pub places_in : List CellFacts → List ℕ
places_in cs = map (λ c. c.workspace.place) cs

-- one of these leads to the place
abbrev pub is_led_by : Related → List ℕ → ℕ → Bool
is_led_by related ps q = list_any (is_listed (linked related.leaders q)) ps

-- these places stand by rank
abbrev pub StandBy : (ℕ → ℕ) → List ℕ → Type 0
StandBy ranked [] = Unit {0}
StandBy ranked (p ∷ ps) = AllByRecursion (λ q. ranked p ≤ ranked q) ps × StandBy ranked ps

-- The place q rests on one of these: one that leads to it, and is one less deep.
abbrev pub RestsOn : Related → (ℕ → ℕ) → List ℕ → ℕ → Type 0
RestsOn related ranked ps q =
    (n : ℕ) → ranked q ≡ suc n
    → (p : ℕ) × (Contains ps p × ((ranked p ≡ n) × (is_listed (linked related.leaders q) p ≡ true)))

-- These ranks are the depths of these places, which stand by them: one that leads to another is less deep, and what is
-- not of depth 0 rests on one that is one less deep. They are counted in 32 bits.
pub record RanksDepths (related : Related) (ranked : ℕ → ℕ) (ps : List ℕ) : Type 0 where
  pub sorted : StandBy ranked ps
  pub rises : AllByRecursion (λ p. (q : ℕ) → is_listed (linked related.leaders q) p ≡ true → ranked p < ranked q) ps
  pub rests : AllByRecursion (RestsOn related ranked ps) ps
  pub small : (p : ℕ) → ranked p + 1 < 2 ^ 32
