-- Tests and sets of places.
use Rattle.std.proofs.Common.{◌≡◌, ℕ, zero, suc, ◌<◌, ◌≤◌, Bool, true, false, List, []}
use Rattle.std.proofs.Common.{◌∷◌, ◌++◌, Option, Some, None, inl, inr, refl, arith}
use Rattle.std.specs.Prelude.{option_map}
use Rattle.std.specs.List.{All, cons_option}
use Rattle.std.specs.Option.{option_or}
use Rattle.std.proofs.lemmas.Bool.{cases_lt, ne_eqb, or_left, or_right}
use Rattle.std.proofs.lemmas.List.Elements.{All-head, All-tail}
use Rattle.cm_model.specs.Order.{some_below}
use Rattle.cm_model.specs.Scene.{Scene, has_seen, member, loaded_of, loaded_all}
use Rattle.cm_model.specs.Faults.{first_of}
use Rattle.cm_model.specs.declared.member.Member.{Member}
use Rattle.cm_model.specs.declared.seen.Seen.{Seen}

-- where one number below passes, some does
pub some_below-from : (test : ℕ → Bool) (n k : ℕ) → k < n → test k ≡ true → some_below test n ≡ true
some_below-from test zero k below passes = absurd (omega (arith, below))
some_below-from test (suc n) k below passes =
    elim (cases_lt k n) [
      | inl before ↦ or_left (some_below test n) (test n) (some_below-from test n k before passes)
      | inr last ↦
          let e : k ≡ n = omega (arith, last, below) in
          or_right (some_below test n) (test n) (rw e at passes)
    ]

-- no loaded controller stands past the places that each has
pub has_seen-past : (test : Seen → Bool) (n : ℕ) (ls : List Seen) → All (λ l. l.place < n) ls → (p : ℕ) → n ≤ p
    → has_seen test ls p ≡ false
has_seen-past test n [] each p above = refl
has_seen-past test n (l ∷ ls) each p above =
    let here : l.place < n = All-head (λ l. l.place < n) l ls each in
    rw (ne_eqb l.place p (λ e. omega (arith, here, above, e)))
    (has_seen-past test n ls (All-tail (λ l. l.place < n) l ls each) p above)

-- the first that something is found of stands in the first part, or else in the second
pub first_of_append : {A B : Type 0} (f : A → Option B) (xs ys : List A)
    → first_of f (xs ++ ys) ≡ option_or (first_of f xs) (first_of f ys)
first_of_append f [] ys = refl
first_of_append {B = B} f (x ∷ xs) ys = found (f x) (first_of_append f xs ys)
  where
    found : (o : Option B) → first_of f (xs ++ ys) ≡ option_or (first_of f xs) (first_of f ys)
        → option_or o (first_of f (xs ++ ys)) ≡ option_or (option_or o (first_of f xs)) (first_of f ys)
    found None rest = rest
    found (Some b) rest = refl

-- the controllers of a name and of others
pub loaded_all-cons : (scene : Scene) (name : List ℕ) (names : List (List ℕ))
    → loaded_all scene (name ∷ names) ≡ loaded_all scene (name ∷ []) ++ loaded_all scene names
loaded_all-cons scene name names = found (option_map member (loaded_of scene name))
  where
    found : (o : Option Member) → cons_option o (loaded_all scene names) ≡ cons_option o [] ++ loaded_all scene names
    found None = refl
    found (Some m) = refl
