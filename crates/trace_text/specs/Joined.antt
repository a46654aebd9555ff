-- Items that are added one after another.
use Rattle.std.specs.Prelude.{◌≡◌, ℕ, Bool, true, if◌then◌else◌, List, [], ◌∷◌, ◌++◌, codes}

-- what stands before an item: a separator where others stand before it
abbrev pub before_item : Bool → List ℕ
before_item started = if started then codes "; " else []

-- items after others, or the first ones
abbrev pub joined_on : Bool → List (List ℕ) → List ℕ
joined_on started [] = []
joined_on started (x ∷ xs) = before_item started ++ x ++ joined_on true xs

-- whether items stand there after these
abbrev pub has_started : Bool → List (List ℕ) → Bool
has_started started [] = started
has_started started (x ∷ xs) = true

-- items were added to a text after others, or as the first ones
pub record Adds (old new : List ℕ) (before : Bool) (items : List (List ℕ)) (after : Bool) : Type 0 where
  pub text : new ≡ old ++ joined_on before items
  pub started : after ≡ has_started before items
