-- What an item begins with, by the number of what it is of.
use Rattle.std.proofs.Common.{◌≡◌, ℕ, zero, suc, List, [], ◌∷◌, map, refl}
use Rattle.std.specs.Prelude.{slice_get, unwrap_or}

-- texts that are made of names are told by place as the names are; past the last it is that of no name
pub told_at : (head : List ℕ → List ℕ) (names : List (List ℕ)) (i : ℕ)
    → unwrap_or (slice_get (map head names) i) (head []) ≡ head (unwrap_or (slice_get names i) [])
told_at head [] i = refl
told_at head (x ∷ xs) zero = refl
told_at head (x ∷ xs) (suc i) = told_at head xs i
