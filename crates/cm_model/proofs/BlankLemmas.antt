-- Blanks of all kinds together.
use Rattle.std.proofs.Common.{◌≡◌, ◌≢◌, ℕ, ◌+◌, ◌-◌, ◌<◌, ◌≤◌, List, length, get_or}
use Rattle.std.proofs.Common.{set, replicate, inl, inr, refl, sym, ap, ◌∙◌, arith}
use Rattle.std.specs.Prelude.{if◌then◌else◌}
use Rattle.std.proofs.lemmas.Bool.{cases_Bool, eqb-true, eq-eqb, true≢false}
use Rattle.std.proofs.lemmas.List.{get_or-set_same, get_or-set_other}
use Rattle.cm_document.specs.Params.{same_controller_kind}
use Rattle.cm_document.specs.Vocabulary.{place_of}
use Rattle.cm_document.specs.declared.description.CtlKind.{CtlKind}
use Rattle.cm_document.specs.declared.description.CtlKind.TheVariants.{Forward}
use Rattle.cm_document.specs.declared.description.TheConstants.{NUMBER_OF_KINDS}
use Rattle.cm_document.proofs.VocabularyLemmas.{place_is_within, same_place}
use Rattle.cm_model.specs.Blanks.{blanks_of, counted_by, blanks_of_each, total}
use Rattle.cm_model.specs.Blanks.{with_count, with_one_less, with_one_more}
use Rattle.cm_model.specs.declared.blanks.Blanks.{Blanks}

-- with so many of one kind, the others stay
pub total_with : (b : Blanks) (kind : CtlKind) (n : ℕ) → total (with_count b kind n) + blanks_of b kind ≡ total b + n
total_with b Forward n = omega arith
total_with b _ n = omega arith

-- one more,
pub one_more : (b : Blanks) (kind : CtlKind) → total (with_one_more b kind) ≡ total b + 1
one_more b kind = omega (arith, total_with b kind (blanks_of b kind + 1))

-- and one less, where there is one
pub one_less : (b : Blanks) (kind : CtlKind) → 0 < blanks_of b kind → total (with_one_less b kind) + 1 ≡ total b
one_less b kind some = omega (arith, total_with b kind (blanks_of b kind - 1), some)

-- there are no more of one kind than of all
pub at_most_total : (b : Blanks) (kind : CtlKind) → blanks_of b kind ≤ total b
at_most_total b Forward = omega arith
at_most_total b _ = omega arith

-- ---- By the places of kinds

-- there are as many of a kind as were counted of it
pub count_is : (count : CtlKind → ℕ) (kind : CtlKind) → blanks_of (counted_by count) kind ≡ count kind
count_is count Forward = refl
count_is count _ = refl

-- as many of each kind are the same blanks
pub same_counts : (count other : CtlKind → ℕ) → ((kind : CtlKind) → count kind ≡ other kind)
    → counted_by count ≡ counted_by other
same_counts count other same = λ i. counted_by (λ kind. same kind i)

-- what was counted is counted again
pub counted_again : (count : CtlKind → ℕ) → counted_by count ≡ counted_by (blanks_of (counted_by count))
counted_again count = same_counts count (blanks_of (counted_by count)) (λ kind. sym (count_is count kind))

-- so many at each place are so many of each kind
each_at : (n : ℕ) (kind : CtlKind) → blanks_of (replicate NUMBER_OF_KINDS n) kind ≡ n
each_at n Forward = refl
each_at n _ = refl

pub each_count : (n : ℕ) → counted_by (blanks_of (replicate NUMBER_OF_KINDS n)) ≡ blanks_of_each n
each_count n = same_counts (blanks_of (replicate NUMBER_OF_KINDS n)) (λ kind. n) (each_at n)

-- a count that is set at the place of a kind
set_at : (counts : List ℕ) (kind other : CtlKind) (n : ℕ) → length counts ≡ NUMBER_OF_KINDS
    → blanks_of (set counts (place_of kind) n) other
    ≡ (if same_controller_kind other kind then n else blanks_of (counted_by (blanks_of counts)) other)
set_at counts kind other n long =
    let within : place_of kind < length counts = omega (arith, long, place_is_within kind) in
    elim (cases_Bool (same_controller_kind other kind)) [
      | inl passes ↦
          let same : place_of other ≡ place_of kind =
          eqb-true (place_of other) (place_of kind) (sym (same_place other kind) ∙ passes) in
          rw passes (ap (λ k. get_or (set counts (place_of kind) n) k 0) same
          ∙ get_or-set_same counts (place_of kind) n 0 within)
      | inr fails ↦
          let apart : place_of other ≢ place_of kind =
          λ same. true≢false
          (sym (eq-eqb (place_of other) (place_of kind) same) ∙ sym (same_place other kind) ∙ fails) in
          rw fails (get_or-set_other counts (place_of kind) (place_of other) n 0 apart
          ∙ sym (count_is (blanks_of counts) other))
    ]

-- so many of this kind, the others as they were
pub set_count : (counts : List ℕ) (kind : CtlKind) (n : ℕ) → length counts ≡ NUMBER_OF_KINDS
    → counted_by (blanks_of (set counts (place_of kind) n)) ≡ with_count (counted_by (blanks_of counts)) kind n
set_count counts kind n long = λ i. counted_by (λ other. set_at counts kind other n long i)
