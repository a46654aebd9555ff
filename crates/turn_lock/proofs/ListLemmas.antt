-- Lemmas on lists: those of prefixes, of the entries of one number, and of the views in a row.
use Rattle.std.proofs.Common.{◌≡◌, ◌≢◌, ◌⊎◌, ℕ, zero, suc, ◌+◌, ◌<◌, ◌≤◌, ◌==◌, cond, ltb, List}
use Rattle.std.proofs.Common.{[], ◌∷◌, ◌++◌, length, get_or, set, sum_by, Contains, refl, sym, ap, ◌∙◌, subst, inl}
use Rattle.std.proofs.Common.{inr, ⊎_elim, arith, append_assoc, append-nil, ltb-true, ltb-false, ne_eqb}
use mathlib.Core.List.{IsPrefix}
use mathlib.Core.Option.{some, some-injective, some-ne-none}
use lib.ListN.{get_elem?}
use Rattle.std.proofs.lemmas.Bool.{cond_both}
use Rattle.std.proofs.lemmas.List.{append_cancel_left}
use Rattle.std.proofs.lemmas.List.Elements.{filter-append}
use Rattle.std.proofs.lemmas.List.Sums.{sum_by-cons, sum_by-set}
use Rattle.atomic_table.proofs.Lists.{at_set}
use Rattle.turn_lock.specs.Entries.{of}
use Rattle.turn_lock.specs.Views.{longer}

-- ---- Prefixes

module _ {A : Type 0} where
  pub nil_left : (xs ys : List A) → xs ++ ys ≡ [] → xs ≡ []
  nil_left [] ys e = refl
  nil_left (x ∷ xs) ys e = absurd (cc)

  pub nil_right : (xs ys : List A) → xs ++ ys ≡ [] → ys ≡ []
  nil_right [] ys e = e
  nil_right (x ∷ xs) ys e = absurd (cc)

  pub nil_added : (xs ys : List A) → xs ++ ys ≡ xs → ys ≡ []
  nil_added xs ys e = append_cancel_left xs ys [] (e ∙ sym (append-nil xs))

  pub prefix_same : (xs : List A) → IsPrefix xs xs
  prefix_same xs = ([], append-nil xs)

  pub prefix_more : (xs ys zs : List A) → IsPrefix xs ys → IsPrefix xs (ys ++ zs)
  prefix_more xs ys zs p = (p.0 ++ zs, sym (append_assoc xs p.0 zs) ∙ ap (λ l. l ++ zs) p.1)

  -- of two beginnings of one list, the shorter begins the longer
  pub between : (xs ys r t : List A) → xs ++ r ≡ ys ++ t → length xs ≤ length ys
      → (u : List A) × (xs ++ u ≡ ys) × (r ≡ u ++ t)
  between [] ys r t e le = (ys, refl, e)
  between (x ∷ xs) [] r t e le = absurd (omega arith)
  between (x ∷ xs) (y ∷ ys) r t e le =
      let same : x ≡ y = cc in
      let more : xs ++ r ≡ ys ++ t = cc in
      let b = between xs ys r t more (omega arith) in
      (b.0, (λ i. same i ∷ b.1 i), b.2)

-- ---- The entries of one number

module _ {E : Type 0} (caller : E → ℕ) where
  pub of-append : (n : ℕ) (xs ys : List E) → of caller n (xs ++ ys) ≡ of caller n xs ++ of caller n ys
  of-append n xs ys = filter-append (λ e. caller e == n) xs ys

  -- an entry of another number adds nothing
  pub of_other : (n : ℕ) (xs : List E) (e : E) → caller e ≢ n → of caller n (xs ++ e ∷ []) ≡ of caller n xs
  of_other n xs e other =
      of-append n xs (e ∷ []) ∙ ap (λ b. of caller n xs ++ cond b (e ∷ []) []) (ne_eqb (caller e) n other)
      ∙ append-nil (of caller n xs)

  -- a beginning of a list without entries of a number has none
  pub of_none : (n : ℕ) (xs log : List E) → IsPrefix xs log → of caller n log ≡ [] → of caller n xs ≡ []
  of_none n xs log p none =
      nil_left (of caller n xs) (of caller n p.0) (sym (of-append n xs p.0) ∙ ap (of caller n) p.1 ∙ none)

  -- where the shorter of two beginnings has all entries of a number, so has the longer
  pub of_between : (n : ℕ) (xs ys log : List E) → IsPrefix xs log → IsPrefix ys log → length xs ≤ length ys
      → of caller n xs ≡ of caller n log → of caller n ys ≡ of caller n log
  of_between n xs ys log p q le all =
      let b = between xs ys p.0 q.0 (p.1 ∙ sym q.1) le in
      let none : of caller n p.0 ≡ [] =
      nil_added (of caller n xs) (of caller n p.0) (sym (of-append n xs p.0) ∙ ap (of caller n) p.1 ∙ sym all) in
      let rest : of caller n q.0 ≡ [] =
      nil_right (of caller n b.0) (of caller n q.0) (sym (of-append n b.0 q.0) ∙ ap (of caller n) (sym b.2) ∙ none) in
      sym (append-nil (of caller n ys)) ∙ ap (λ l. of caller n ys ++ l) (sym rest) ∙ sym (of-append n ys q.0)
      ∙ ap (of caller n) q.1

-- ---- The longer of two lists

module _ {E : Type 0} where
  pub longer_is : (P : List E → Type 0) (xs ys : List E) → (length ys ≤ length xs → P xs)
      → (length xs < length ys → P ys) → P (longer xs ys)
  longer_is P xs ys first second =
      cond_both (ltb (length xs) (length ys)) ys xs P (λ e. second (ltb-true (length xs) (length ys) e))
      (λ e. first (ltb-false (length xs) (length ys) e))

-- ---- A row of which one item changes

module _ {A : Type 0} where
  pub at_get : (l : List A) (i : ℕ) (v : A) → get_elem? l i ≡ some v → (i < length l) × (get_or l i v ≡ v)
  at_get [] i v e = absurd (some-ne-none v (sym e))
  at_get (x ∷ xs) zero v e = (omega arith, some-injective x v e)
  at_get (x ∷ xs) (suc i) v e = let r = at_get xs i v e in (omega arith, r.1)

  pub sum_set : (f : A → ℕ) (l : List A) (i : ℕ) (v w : A) → get_elem? l i ≡ some v
      → sum_by f (set l i w) + f v ≡ sum_by f l + f w
  sum_set f l i v w e =
      let r = at_get l i v e in ap (λ u. sum_by f (set l i w) + f u) (sym r.1) ∙ sum_by-set f l i w v r.0

  pub sum_le : (f g : A → ℕ) (l : List A) → ((i : ℕ) (v : A) → get_elem? l i ≡ some v → f v ≤ g v)
      → sum_by f l ≤ sum_by g l
  sum_le f g [] each = omega arith
  sum_le f g (x ∷ xs) each =
      let here = each 0 x refl in
      let rest = sum_le f g xs (λ i v e. each (suc i) v e) in
      omega (arith, sum_by-cons f x xs, sum_by-cons g x xs)

  -- what holds of the new item and of each other
  pub every_set : (P : A → Type 0) (l : List A) (i : ℕ) (w : A) → P w
      → ((j : ℕ) (u : A) → j ≢ i → get_elem? l j ≡ some u → P u)
      → (j : ℕ) (u : A) → get_elem? (set l i w) j ≡ some u → P u
  every_set P l i w one others j u e =
      ⊎_elim
      (λ (t : (j ≡ i) × (w ≡ u)). subst P t.1 one)
      (λ (t : (j ≢ i) × (get_elem? l j ≡ some u)). others j u t.0 t.1)
      (at_set l i j w u e)

  -- what holds of any two items, where it holds of the new one and each other
  pub pairs_set : (R : A → A → Type 0) (l : List A) (i : ℕ) (w : A) → ((a b : A) → R a b → R b a)
      → ((j k : ℕ) (a b : A) → j ≢ k → get_elem? l j ≡ some a → get_elem? l k ≡ some b → R a b)
      → ((j : ℕ) (u : A) → j ≢ i → get_elem? l j ≡ some u → R w u)
      → (j k : ℕ) (a b : A) → j ≢ k → get_elem? (set l i w) j ≡ some a → get_elem? (set l i w) k ≡ some b → R a b
  pairs_set R l i w turn old new j k a b apart at bt =
      ⊎_elim
      (λ (t : (j ≡ i) × (w ≡ a)). ⊎_elim
      (λ (s : (k ≡ i) × (w ≡ b)). absurd (apart (t.0 ∙ sym s.0)))
      (λ (s : (k ≢ i) × (get_elem? l k ≡ some b)). subst (λ x. R x b) t.1 (new k b s.0 s.1))
      (at_set l i k w b bt))
      (λ (t : (j ≢ i) × (get_elem? l j ≡ some a)). ⊎_elim
      (λ (s : (k ≡ i) × (w ≡ b)). subst (λ x. R a x) s.1 (turn w a (new j a t.0 t.1)))
      (λ (s : (k ≢ i) × (get_elem? l k ≡ some b)). old j k a b apart t.1 s.1)
      (at_set l i k w b bt))
      (at_set l i j w a at)

-- a row and one item more: each is an old one, or the new one at the end
pub snoc_at : {A : Type 0} (l : List A) (a b : A) (j : ℕ) → get_elem? (l ++ a ∷ []) j ≡ some b
    → (get_elem? l j ≡ some b) ⊎ ((j ≡ length l) × (a ≡ b))
snoc_at [] a b zero e = inr (refl, some-injective a b e)
snoc_at [] a b (suc j) e = absurd (some-ne-none b (sym e))
snoc_at (x ∷ xs) a b zero e = inl e
snoc_at (x ∷ xs) a b (suc j) e = ⊎_elim (λ old. inl old) (λ new. inr (ap suc new.0, new.1)) (snoc_at xs a b j e)

-- ---- Lists with one item, or none

pub only : {A : Type 0} (a x : A) → Contains (a ∷ []) x → x ≡ a
only a x (zero, lt, e) = sym e
only a x (suc k, lt, e) = absurd (omega arith)

pub nothing : {A : Type 0} (x : A) → Contains {X = A} [] x → ⊥
nothing x c = omega (arith, c.1)
