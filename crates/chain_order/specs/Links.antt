-- Links by place: for each controller, the places of those that it precedes, or that precede it.
use Rattle.std.specs.Prelude.{ℕ, zero, suc, ◌<◌, ◌^◌, Bool, ◌&&◌, if◌then◌else◌, List, [], ◌∷◌, ◌++◌, length}
use Rattle.std.specs.Prelude.{slice_index_or}
use Rattle.std.specs.List.{All}
use Rattle.cm_document.specs.declared.description.CtlDesc.{CtlDesc}
use Rattle.cm_model.specs.Order.{precedes_at, set_of}

-- the numbers below that pass the test, ascending
abbrev pub places_below : (ℕ → Bool) → ℕ → List ℕ
places_below test zero = []
places_below test (suc n) = places_below test n ++ (if test n then n ∷ [] else [])

-- what each number below is given, in their order
abbrev pub each_below : {A : Type 0} → (ℕ → A) → ℕ → List A
each_below f zero = []
each_below f (suc n) = each_below f n ++ f n ∷ []

-- for each place below, the places that are linked to it, ascending
abbrev pub rows_of : (ℕ → ℕ → Bool) → ℕ → List (List ℕ)
rows_of linked n = each_below (λ p. places_below (λ q. linked q p) n) n

-- for each controller, by place, the places of those that it precedes
abbrev pub links_of : List CtlDesc → List (List ℕ)
links_of controllers = rows_of (λ q p. precedes_at controllers p q) (length controllers)

-- for each controller, by place, the places of those that precede it
abbrev pub leaders_of : List CtlDesc → List (List ℕ)
leaders_of controllers = rows_of (precedes_at controllers) (length controllers)

-- the places in the row of a place
abbrev pub linked : List (List ℕ) → ℕ → List ℕ
linked links place = slice_index_or links place []

-- the links from members alone
abbrev pub among : List Bool → (ℕ → ℕ → Bool) → ℕ → ℕ → Bool
among flags linked q p = set_of flags q && linked q p

-- There are fewer places than 2^32, and links lead to places alone.
pub record IsLinks (links : List (List ℕ)) : Type 0 where
  pub few : length links < 2 ^ 32
  pub within : All (λ row. All (λ place. place < length links) row) links
