-- Ways over links, from place to place.
use Rattle.std.specs.Prelude.{ℕ, ◌<◌, List, [], ◌∷◌, length, Option, Some, None, Contains}
use Rattle.chain_order.specs.Links.{linked}

-- the first place is linked to the first of these, each to the next, and the last to the end
abbrev pub IsWay : List (List ℕ) → ℕ → List ℕ → ℕ → Type 0
IsWay links place [] end = Contains (linked links place) end
IsWay links place (next ∷ more) end = Contains (linked links place) next × IsWay links next more end

-- a way leads from the one place to the other
abbrev pub Leads : List (List ℕ) → ℕ → ℕ → Type 0
Leads links place end = (via : List ℕ) × IsWay links place via end

-- no place before this one leads back to itself
abbrev pub NoneBefore : List (List ℕ) → ℕ → Type 0
NoneBefore links place = (k : ℕ) → k < place → ¬ Leads links k k

-- the least place that leads back to itself, or none where no place does
abbrev pub IsFirstBack : List (List ℕ) → Option ℕ → Type 0
IsFirstBack links None = NoneBefore links (length links)
IsFirstBack links (Some place) = (place < length links) × Leads links place place × NoneBefore links place
