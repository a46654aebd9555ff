-- The last item of a list.
use Rattle.std.specs.Prelude.{List, [], ◌∷◌}

-- the list with its last item changed so
abbrev pub in_last : {A : Type 0} → (A → A) → List A → List A
in_last f [] = []
in_last f (x ∷ []) = f x ∷ []
in_last f (x ∷ y ∷ xs) = x ∷ in_last f (y ∷ xs)
