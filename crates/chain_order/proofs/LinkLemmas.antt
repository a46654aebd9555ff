-- Which places the rows of links have.
use Rattle.std.proofs.Common.{◌≡◌, ℕ, zero, suc, ◌<◌, ◌^◌, Bool, true, List, [], ◌∷◌, ◌++◌, length}
use Rattle.std.proofs.Common.{get_or, inl, inr, refl, sym, ◌∙◌, ap₂, arith, length-append}
use Rattle.std.specs.List.{All, Contains}
use Rattle.std.proofs.lemmas.Bool.{cases_Bool, cases_lt}
use Rattle.std.proofs.lemmas.List.{append-nil, get_or_append_left, get_or_push, get_or_default}
use Rattle.std.proofs.lemmas.List.Elements.{All-nil, All-cons, All-append, All-weaker, Contains-push}
use Rattle.std.proofs.lemmas.List.Elements.{Contains-push_cases, Contains-append_left}
use Rattle.cm_document.specs.Links.{precedes}
use Rattle.cm_document.specs.declared.description.CtlDesc.{CtlDesc}
use Rattle.cm_model.specs.Order.{nobody, precedes_at}
use Rattle.chain_order.specs.Links.{places_below, each_below, rows_of, links_of, linked, IsLinks}

-- ---- What each number below is given

pub length-each_below : {A : Type 0} (f : ℕ → A) (n : ℕ) → length (each_below f n) ≡ n
length-each_below f zero = refl
length-each_below f (suc n) = omega (arith, length-append (each_below f n) (f n ∷ []), length-each_below f n)

pub get_or-each_below : {A : Type 0} (f : ℕ → A) (n i : ℕ) (d : A) → i < n → get_or (each_below f n) i d ≡ f i
get_or-each_below f zero i d below = absurd (omega (arith, below))
get_or-each_below f (suc n) i d below =
    elim (cases_lt i n) [
      | inl before ↦ get_or_append_left (each_below f n) (f n ∷ []) d i (omega (arith, before, length-each_below f n))
          ∙ get_or-each_below f n i d before
      | inr last ↦
          let e : i ≡ n = omega (arith, last, below) in
          rw e (get_or_push (each_below f n) (f n) d n (length-each_below f n))
    ]

-- what is given alike below
pub each_below-same : {A : Type 0} (f g : ℕ → A) (n : ℕ) → ((i : ℕ) → i < n → f i ≡ g i)
    → each_below f n ≡ each_below g n
each_below-same f g zero same = refl
each_below-same f g (suc n) same =
    ap₂ (λ xs x. xs ++ x ∷ []) (each_below-same f g n (λ i below. same i (omega (arith, below)))) (same n (omega arith))

-- what holds of each that is given
pub All-each_below : {A : Type 0} (P : A → Type 0) (f : ℕ → A) (n : ℕ) → ((i : ℕ) → i < n → P (f i))
    → All P (each_below f n)
All-each_below P f zero each = All-nil P
All-each_below P f (suc n) each =
    All-append P (each_below f n) (f n ∷ []) (All-each_below P f n (λ i below. each i (omega (arith, below))))
    (All-cons P (f n) [] (each n (omega arith)) (All-nil P))

-- ---- Places that pass

pub places_below-within : (test : ℕ → Bool) (n : ℕ) → All (λ p. p < n) (places_below test n)
places_below-within test zero = All-nil (λ p. p < 0)
places_below-within test (suc n) =
    let before =
    All-weaker (λ p. p < n) (λ p. p < suc n) (λ p below. omega (arith, below)) (places_below test n)
    (places_below-within test n) in
    elim (cases_Bool (test n)) [
      | inl passes ↦ rw (passes, places_below)
          (All-append (λ p. p < suc n) (places_below test n) (n ∷ []) before
          (All-cons (λ p. p < suc n) n [] (omega arith) (All-nil (λ p. p < suc n))))
      | inr fails ↦ rw (fails, places_below)
          (All-append (λ p. p < suc n) (places_below test n) [] before (All-nil (λ p. p < suc n)))
    ]

-- a place that stands there is below and passes
Contains-places_below : (test : ℕ → Bool) (n q : ℕ) → Contains (places_below test n) q → (q < n) × (test q ≡ true)
Contains-places_below test zero q (k, here, is) = absurd (omega (arith, here))
Contains-places_below test (suc n) q there =
    elim (cases_Bool (test n)) [
      | inl passes ↦
          elim (Contains-push_cases (places_below test n) n q (rw (passes, places_below) at there)) [
            | inl before ↦ let r = Contains-places_below test n q before in (omega (arith, r.0), r.1)
            | inr e ↦ rw (← e) (omega arith, passes)
          ]
      | inr fails ↦
          let r = Contains-places_below test n q
          (rw (append-nil (places_below test n)) at (rw (fails, places_below) at there)) in
          (omega (arith, r.0), r.1)
    ]

-- and the other way
places_below-Contains : (test : ℕ → Bool) (n q : ℕ) → q < n → test q ≡ true → Contains (places_below test n) q
places_below-Contains test zero q below passes = absurd (omega (arith, below))
places_below-Contains test (suc n) q below passes =
    elim (cases_lt q n) [
      | inl before ↦ Contains-append_left (places_below test n) _ q (places_below-Contains test n q before passes)
      | inr last ↦
          let e : q ≡ n = omega (arith, last, below) in
          rw ((rw e at passes), places_below) (rw e (Contains-push (places_below test n) n))
    ]

-- ---- Rows

-- the row of a place
pub linked-rows_of : (linked_to : ℕ → ℕ → Bool) (n p : ℕ) → p < n
    → linked (rows_of linked_to n) p ≡ places_below (λ q. linked_to q p) n
linked-rows_of linked_to n p below = get_or-each_below (λ p. places_below (λ q. linked_to q p) n) n p [] below

-- rows lead to places alone
pub rows_of-IsLinks : (linked_to : ℕ → ℕ → Bool) (n : ℕ) → n < 2 ^ 32 → IsLinks (rows_of linked_to n)
rows_of-IsLinks linked_to n few =
    let rows : List (List ℕ) = rows_of linked_to n in
    let same : length rows ≡ n = length-each_below (λ p. places_below (λ q. linked_to q p) n) n in
    record {
      few = omega (arith, same, few);
      within = All-each_below (λ row. All (λ place. place < length rows) row) (λ p. places_below (λ q. linked_to q p) n)
          n
          (λ i below. All-weaker (λ p. p < n) (λ p. p < length rows) (λ p within. omega (arith, within, same))
          (places_below (λ q. linked_to q i) n) (places_below-within (λ q. linked_to q i) n));
    }

-- the controller at a place, whatever stands past the last
at_any : (cs : List CtlDesc) (other : CtlDesc) (p q : ℕ) → p < length cs → q < length cs
    → precedes_at cs p q ≡ precedes (get_or cs p other) (get_or cs q other)
at_any cs other p q here there =
    ap₂ precedes (get_or_default cs p nobody other here) (get_or_default cs q nobody other there)

-- a place that stands in the row of another is that of a controller which the other precedes
pub linked-precedes : (cs : List CtlDesc) (other : CtlDesc) (p q : ℕ) → p < length cs
    → Contains (linked (links_of cs) p) q
    → (q < length cs) × (precedes (get_or cs p other) (get_or cs q other) ≡ true)
linked-precedes cs other p q below follows =
    let r = Contains-places_below (precedes_at cs p) (length cs) q
    (rw (linked-rows_of (λ q p. precedes_at cs p q) (length cs) p below) at follows) in
    (r.0, sym (at_any cs other p q below r.0) ∙ r.1)

-- and the other way
pub precedes-linked : (cs : List CtlDesc) (other : CtlDesc) (p q : ℕ) → p < length cs → q < length cs
    → precedes (get_or cs p other) (get_or cs q other) ≡ true
    → Contains (linked (links_of cs) p) q
precedes-linked cs other p q below within leads =
    rw (linked-rows_of (λ q p. precedes_at cs p q) (length cs) p below)
    (places_below-Contains (precedes_at cs p) (length cs) q within (at_any cs other p q below within ∙ leads))
