-- Lines with none, one or two words after their verb.
use Rattle.std.specs.Prelude.{ℕ, List, [], ◌∷◌, Option, Some, None}

-- what the verb says alone, where no word stands behind it
abbrev pub alone : {A : Type 0} → A → List (List ℕ) → Option A
alone says [] = Some says
alone says (word ∷ words) = None

-- the one word, where no other stands beside it
abbrev pub only : List (List ℕ) → Option (List ℕ)
only (word ∷ []) = Some word
only _ = None

-- the two words, where no third stands beside them
abbrev pub pair : List (List ℕ) → Option (List ℕ × List ℕ)
pair (first ∷ second ∷ []) = Some (first, second)
pair _ = None

-- what is listed, where there is one at least
abbrev pub one_or_more : {A : Type 0} → Option (List A) → Option (List A)
one_or_more None = None
one_or_more (Some []) = None
one_or_more (Some (x ∷ xs)) = Some (x ∷ xs)
