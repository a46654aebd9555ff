-- Lists of which each item is told by the item at its place in another.
use Rattle.std.proofs.Common.{◌≡◌, ℕ, suc, ◌<◌, List, [], ◌∷◌, length, map, refl, ap₂, arith}
use Rattle.std.specs.Prelude.{slice_index_or}

-- each item is that of the other list, changed so
pub all_mapped : {A : Type 0} (f : A → A) (xs ys : List A) → length ys ≡ length xs
    → ((i : ℕ) (d : A) → i < length xs → slice_index_or ys i d ≡ f (slice_index_or xs i d)) → ys ≡ map f xs
all_mapped f [] [] same each = refl
all_mapped f [] (y ∷ ys) same each = absurd (omega (arith, same))
all_mapped f (x ∷ xs) [] same each = absurd (omega (arith, same))
all_mapped {A} f (x ∷ xs) (y ∷ ys) same each =
    ap₂ (λ (z : A) (zs : List A). z ∷ zs) (each 0 x (omega arith))
    (all_mapped f xs ys (omega (arith, same)) (λ i d within. each (suc i) d (omega (arith, within))))

-- what is told of each item is told of the other list's
pub told_alike : {A B : Type 0} (f : A → B) (xs ys : List A) → length ys ≡ length xs
    → ((i : ℕ) (d : A) → i < length xs → f (slice_index_or ys i d) ≡ f (slice_index_or xs i d)) → map f ys ≡ map f xs
told_alike f [] [] same each = refl
told_alike f [] (y ∷ ys) same each = absurd (omega (arith, same))
told_alike f (x ∷ xs) [] same each = absurd (omega (arith, same))
told_alike {A} {B} f (x ∷ xs) (y ∷ ys) same each =
    ap₂ (λ (z : B) (zs : List B). z ∷ zs) (each 0 x (omega arith))
    (told_alike f xs ys (omega (arith, same)) (λ i d within. each (suc i) d (omega (arith, within))))
