-- What starts and stops, taken out before it is put in order; and the places of what is active.
use Rattle.std.proofs.Common.{◌≡◌, ℕ, zero, suc, Bool, true, false, List, [], ◌∷◌, ◌++◌}
use Rattle.std.proofs.Common.{length, map, cond, inl, inr, refl, sym, ◌∙◌, ap, ap₂}
use Rattle.std.specs.Prelude.{◌&&◌, ◌||◌, ◌==◌}
use Rattle.std.specs.List.{filter}
use Rattle.std.proofs.lemmas.Bool.{cases_Bool, true≢false}
use Rattle.std.proofs.Math.Bool.{and-false, and-true}
use Rattle.cm_document.specs.declared.description.CtlDesc.{CtlDesc}
use Rattle.cm_model.specs.Order.{Places, depth, by_rank, in_order, places_of}
use Rattle.cm_model.specs.Scene.{has_seen, is_running, member}
use Rattle.cm_model.specs.declared.member.Member.{Member}
use Rattle.cm_model.specs.declared.seen.Seen.{Seen}

-- ---- Filters

module _ {A : Type 0} (f g : A → Bool) where
  filter-append : (xs ys : List A) → filter f (xs ++ ys) ≡ filter f xs ++ filter f ys
  filter-append [] ys = refl
  filter-append (x ∷ xs) ys = elim (cases_Bool (f x)) [
    | inl passes ↦ rw (passes, filter) (ap (λ zs. x ∷ zs) (filter-append xs ys))
    | inr fails ↦ rw (fails, filter) (filter-append xs ys)
  ]

  -- in whichever order the tests are made
  filter-swapped : (xs : List A) → filter f (filter g xs) ≡ filter g (filter f xs)
  filter-swapped [] = refl
  filter-swapped (x ∷ xs) = swapped (f x) (g x) (filter-swapped xs) refl refl
    where
      swapped : (a b : Bool) → filter f (filter g xs) ≡ filter g (filter f xs) → f x ≡ a → g x ≡ b
          → filter f (cond b (x ∷ filter g xs) (filter g xs)) ≡ filter g (cond a (x ∷ filter f xs) (filter f xs))
      swapped true true rest is so = rw (is, so) (ap (λ zs. x ∷ zs) rest)
      swapped true false rest is so = rw so rest
      swapped false true rest is so = rw is rest
      swapped false false rest is so = rest

-- what is taken out of a list by rank
filter-by_rank : {A : Type 0} (test : A → Bool) (ranked : A → ℕ) (n : ℕ) (xs : List A)
    → filter test (by_rank ranked n xs) ≡ by_rank ranked n (filter test xs)
filter-by_rank test ranked zero xs = refl
filter-by_rank test ranked (suc n) xs =
    filter-append test test (by_rank ranked n xs) (filter (λ x. ranked x == n) xs)
    ∙ ap₂ (λ front back. front ++ back) (filter-by_rank test ranked n xs) (filter-swapped test (λ x. ranked x == n) xs)

-- ---- Members that move

-- those that move of the members of a set, where none moves that is no member
moved : (set moves : Places) → ((p : ℕ) → moves p ≡ true → set p ≡ true) → (ls : List Seen)
    → filter (λ (m : Member). moves m.place) (map member (filter (λ (l : Seen). set l.place) ls))
    ≡ map member (filter (λ (l : Seen). moves l.place) ls)
moved set moves within [] = refl
moved set moves within (l ∷ ls) = one (set l.place) (moves l.place) (moved set moves within ls) refl refl
  where
    one : (a b : Bool)
        → filter (λ (m : Member). moves m.place) (map member (filter (λ (l : Seen). set l.place) ls))
        ≡ map member (filter (λ (l : Seen). moves l.place) ls)
        → set l.place ≡ a → moves l.place ≡ b
        → filter (λ (m : Member). moves m.place)
        (map member (cond a (l ∷ filter (λ (l : Seen). set l.place) ls) (filter (λ (l : Seen). set l.place) ls)))
        ≡ map member (cond b (l ∷ filter (λ (l : Seen). moves l.place) ls) (filter (λ (l : Seen). moves l.place) ls))
    one true true rest is so = rw so (ap (λ ms. member l ∷ ms) rest)
    one true false rest is so = rw so rest
    one false true rest is so = absurd (true≢false (sym (within l.place so) ∙ is))
    one false false rest is so = rest

-- so they can be taken out first
pub moved_in_order : (cs : List CtlDesc) (set moves : Places) → ((p : ℕ) → moves p ≡ true → set p ≡ true)
    → (ls : List Seen)
    → filter (λ (m : Member). moves m.place) (in_order cs set (map member (filter (λ (l : Seen). set l.place) ls)))
    ≡ in_order cs set (map member (filter (λ (l : Seen). moves l.place) ls))
moved_in_order cs set moves within ls =
    filter-by_rank (λ (m : Member). moves m.place) (λ m. depth cs set m.place) (suc (length cs))
    (map member (filter (λ (l : Seen). set l.place) ls))
    ∙ ap (in_order cs set) (moved set moves within ls)

-- ---- Active ones

-- the places of the active ones
pub running_places : (ls : List Seen) (p : ℕ)
    → places_of (map member (filter (λ (l : Seen). is_running l.life) ls)) p ≡ has_seen (λ l. is_running l.life) ls p
running_places [] p = refl
running_places (l ∷ ls) p = one (is_running l.life) (running_places ls p)
  where
    one : (b : Bool)
        → places_of (map member (filter (λ (l : Seen). is_running l.life) ls)) p
        ≡ has_seen (λ l. is_running l.life) ls p
        → places_of (map member
        (cond b (l ∷ filter (λ (l : Seen). is_running l.life) ls) (filter (λ (l : Seen). is_running l.life) ls))) p
        ≡ ((l.place == p && b) || has_seen (λ l. is_running l.life) ls p)
    one true rest = ap₂ (λ a c. a || c) (sym (and-true (l.place == p))) rest
    one false rest = rest ∙ sym (ap (λ a. a || has_seen (λ l. is_running l.life) ls p) (and-false (l.place == p)))
