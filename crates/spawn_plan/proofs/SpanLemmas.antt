-- With which cycles components are there, if no controller is active.
use Rattle.std.proofs.Common.{◌≡◌, ◌⊎◌, ℕ, zero, suc, ◌+◌, ◌<◌, ◌≤◌, Bool, true, false, List, [], ◌∷◌, Option, Some}
use Rattle.std.proofs.Common.{None, inl, inr, refl, sym, ◌∙◌, ap, subst, arith, true≢false, ltb-true, lt-ltb}
use Rattle.std.specs.Prelude.{nat_lt, not, ◌&&◌, ◌==◌, if◌then◌else◌, slice_get}
use Rattle.std.specs.List.{Contains}
use Rattle.std.specs.Option.{option_map_or}
use Rattle.std.proofs.lemmas.Bool.{cases_lt, cases_Bool, or_parts, or_from, and_cases}
use Rattle.std.proofs.lemmas.Bool.{and_right, eqb-true, eq-eqb, false_from_ne_true}
use Rattle.std.proofs.lemmas.Option.{same_Some}
use Rattle.cm_document.specs.declared.description.CompDesc.{CompDesc}
use Rattle.cm_document.specs.declared.life.Life.{Life}
use Rattle.cm_document.specs.declared.life.Life.TheVariants.{Unconfigured, Inactive, Active, Finalized}
use Rattle.cm_model.specs.Components.{is_available, is_listed, write_runs, has_failed, life_after}
use Rattle.switch_plan.proofs.ElementLemmas.{none_inside, here, later, first_or_later, any_from, some_of}
use Rattle.spawn_plan.specs.Fitting.{life_by, is_there_by}
use Rattle.spawn_plan.specs.Spans.{up_to_first, span_of, least_span, least_of_rows}

-- ---- Choices

first_chosen : {A : Type 0} (b : Bool) (x y : A) → b ≡ true → (if b then x else y) ≡ x
first_chosen true x y e = refl
first_chosen false x y e = cc

second_chosen : {A : Type 0} (b : Bool) (x y : A) → b ≡ false → (if b then x else y) ≡ y
second_chosen true x y e = cc
second_chosen false x y e = refl

at_least : (a b : ℕ) → b ≤ a → nat_lt a b ≡ false
at_least a b within = false_from_ne_true (nat_lt a b) (λ less. omega (arith, ltb-true a b less, within))

-- ---- The first of some cycles

module _ (k count cycle : ℕ) where
  lowered-within : k < (if nat_lt cycle count then cycle + 1 else count) → (k < count) × (k ≤ cycle)
  lowered-within below =
      elim (cases_lt cycle count) [
        | inl before ↦
            let less : k < cycle + 1 =
            subst (λ n. k < n) (first_chosen (nat_lt cycle count) (cycle + 1) count (lt-ltb cycle count before))
            below in
            (omega (arith, less, before), omega (arith, less))
        | inr after ↦
            let less : k < count =
            subst (λ n. k < n) (second_chosen (nat_lt cycle count) (cycle + 1) count (at_least cycle count after))
            below in
            (less, omega (arith, less, after))
      ]

  lowered-from : k < count → k ≤ cycle → k < (if nat_lt cycle count then cycle + 1 else count)
  lowered-from below within =
      elim (cases_lt cycle count) [
        | inl before ↦
            let less : k < cycle + 1 = omega (arith, within) in
            subst (λ n. k < n) (sym (first_chosen (nat_lt cycle count) (cycle + 1) count (lt-ltb cycle count before)))
            less
        | inr after ↦ subst (λ n. k < n)
            (sym (second_chosen (nat_lt cycle count) (cycle + 1) count (at_least cycle count after))) below
      ]

pub up_to_first-within : (k count : ℕ) (cycles : List ℕ) → k < up_to_first count cycles
    → (k < count) × ((cycle : ℕ) → Contains cycles cycle → k ≤ cycle)
up_to_first-within k count [] below = (below, λ cycle inside. absurd (none_inside cycle inside))
up_to_first-within k count (first ∷ cycles) below =
    let rest = up_to_first-within k (if nat_lt first count then first + 1 else count) cycles below in
    let both = lowered-within k count first rest.0 in (
      both.0,
      λ cycle inside. elim (first_or_later first cycles cycle inside)
          [ inl same ↦ subst (λ c. k ≤ c) same both.1 | inr after ↦ rest.1 cycle after ],
    )

pub up_to_first-from : (k count : ℕ) (cycles : List ℕ) → k < count → ((cycle : ℕ) → Contains cycles cycle → k ≤ cycle)
    → k < up_to_first count cycles
up_to_first-from k count [] below each = below
up_to_first-from k count (first ∷ cycles) below each =
    up_to_first-from k (if nat_lt first count then first + 1 else count) cycles
    (lowered-from k count first below (each first (here first cycles)))
    (λ cycle inside. each cycle (later first cycles cycle inside))

-- no cycle before is listed
none_before : (k : ℕ) (cycles : List ℕ) → ((cycle : ℕ) → Contains cycles cycle → k ≤ cycle) → (n : ℕ) → n < k
    → is_listed cycles n ≡ false
none_before k cycles each n before =
    false_from_ne_true (is_listed cycles n) (λ listed.
    let r = some_of (λ (c : ℕ). c == n) cycles listed in
    let within : k ≤ r.0 = each r.0 r.1 in
    omega (arith, within, before, eqb-true r.0 n r.2))

none_listed : (k : ℕ) (cycles : List ℕ) → ((n : ℕ) → n < k → is_listed cycles n ≡ false) → (cycle : ℕ)
    → Contains cycles cycle → k ≤ cycle
none_listed k cycles none cycle inside =
    elim (cases_lt cycle k) [
      | inl before ↦ absurd
          (true≢false (sym (any_from (λ (c : ℕ). c == cycle) cycles cycle inside (eq-eqb cycle cycle refl))
          ∙ none cycle before))
      | inr after ↦ after
    ]

-- ---- One component

module _ (c : CompDesc) where
  -- what is not available does not fail
  still : (life : Life) (n : ℕ) → is_available life ≡ false → has_failed c life n ≡ false
  still Inactive n gone = cc
  still Active n gone = cc
  still Unconfigured n gone = refl
  still Finalized n gone = refl

  -- one that does not fail has no failure listed that counts, and the other way
  fails_parts : (life : Life) (n : ℕ) → is_available life ≡ true → has_failed c life n ≡ false
      → (is_listed c.fail_read n ≡ false) × (write_runs life ≡ true → is_listed c.fail_write n ≡ false)
  fails_parts Inactive n up none = ((or_parts (is_listed c.fail_read n) false none).0, λ runs. cc)
  fails_parts Active n up none =
      let read = is_listed c.fail_read n in
      let parts = or_parts read (not read && is_listed c.fail_write n) none in (
        parts.0,
        λ runs.
            elim (and_cases (not (is_listed c.fail_read n)) (is_listed c.fail_write n) parts.1) [
              | inl read ↦ absurd (true≢false (sym (ap not parts.0) ∙ read))
              | inr write ↦ write
            ],
      )
  fails_parts Unconfigured n up none = cc
  fails_parts Finalized n up none = cc

  fails_from : (life : Life) (n : ℕ) → is_listed c.fail_read n ≡ false
      → (write_runs life ≡ true → is_listed c.fail_write n ≡ false) → has_failed c life n ≡ false
  fails_from Inactive n read write = or_from (is_listed c.fail_read n) false read refl
  fails_from Active n read write =
      or_from (is_listed c.fail_read n) (not (is_listed c.fail_read n) && is_listed c.fail_write n) read
      (and_right (not (is_listed c.fail_read n)) (is_listed c.fail_write n) (write refl))
  fails_from Unconfigured n read write = refl
  fails_from Finalized n read write = refl

  -- as long as it has not failed it has its first state
  unfailed : (k : ℕ) → ((n : ℕ) → n < k → has_failed c c.initial n ≡ false) → life_by c k ≡ c.initial
  unfailed zero none = refl
  unfailed (suc n) none =
      ap (λ life. life_after c life n) (unfailed n (λ m below. none m (omega (arith, below))))
      ∙ second_chosen (has_failed c c.initial n) c.on_error c.initial (none n (omega arith))

  -- one that is not available stays so
  stays_gone : (n : ℕ) → is_available (life_by c n) ≡ false → is_available (life_by c (suc n)) ≡ false
  stays_gone n gone =
      ap is_available
      (second_chosen (has_failed c (life_by c n) n) c.on_error (life_by c n) (still (life_by c n) n gone)) ∙ gone

  never_there : is_available c.initial ≡ false → (k : ℕ) → is_available (life_by c k) ≡ false
  never_there gone zero = gone
  never_there gone (suc n) = stays_gone n (never_there gone n)

  -- one that stays available when it fails is there for good
  always_there : is_available c.initial ≡ true → is_available c.on_error ≡ true → (k : ℕ)
      → is_available (life_by c k) ≡ true
  always_there up mends zero = up
  always_there up mends (suc n) =
      elim (cases_Bool (has_failed c (life_by c n) n)) [
        | inl fails ↦ ap is_available (first_chosen (has_failed c (life_by c n) n) c.on_error (life_by c n) fails)
            ∙ mends
        | inr none ↦ ap is_available (second_chosen (has_failed c (life_by c n) n) c.on_error (life_by c n) none)
            ∙ always_there up mends n
      ]

  -- and another has not failed yet, or is gone
  lost_next : is_available c.on_error ≡ false → (k : ℕ)
      → ((life_by c k ≡ c.initial) × ((n : ℕ) → n < k → has_failed c c.initial n ≡ false))
      ⊎ (is_available (life_by c k) ≡ false)
      → (fails : Bool) → has_failed c c.initial k ≡ fails
      → ((life_by c (suc k) ≡ c.initial) × ((n : ℕ) → n < suc k → has_failed c c.initial n ≡ false))
      ⊎ (is_available (life_by c (suc k)) ≡ false)
  lost_next gone k (inr there) fails is = inr (stays_gone k there)
  lost_next gone k (inl (same, none)) true is =
      inr (ap (λ life. is_available (life_after c life k)) same
      ∙ ap is_available (first_chosen (has_failed c c.initial k) c.on_error c.initial is) ∙ gone)
  lost_next gone k (inl (same, none)) false is =
      inl (
        ap (λ life. life_after c life k) same ∙ second_chosen (has_failed c c.initial k) c.on_error c.initial is,
        λ n below.
            elim (cases_lt n k) [
              | inl before ↦ none n before
              | inr last ↦ let e : n ≡ k =
                  omega (arith, last, below) in subst (λ m. has_failed c c.initial m ≡ false) (sym e) is
            ],
      )

  lost : is_available c.on_error ≡ false → (k : ℕ)
      → ((life_by c k ≡ c.initial) × ((n : ℕ) → n < k → has_failed c c.initial n ≡ false))
      ⊎ (is_available (life_by c k) ≡ false)
  lost gone zero = inl (refl, λ n below. absurd (omega (arith, below)))
  lost gone (suc k) = lost_next gone k (lost gone k) (has_failed c c.initial k) refl

  -- so it has no failure before the last cycle with which it is there
  none_failed : is_available c.on_error ≡ false → (k : ℕ) → is_there_by k c ≡ true → (n : ℕ) → n < k
      → has_failed c c.initial n ≡ false
  none_failed gone k there n below =
      elim (lost gone k) [
        | inl (same, none) ↦ none n below
        | inr lost ↦ absurd (true≢false (sym there ∙ lost))
      ]

  -- ---- Its span

  abbrev span_by : Bool → Bool → Bool → ℕ → ℕ
  span_by up mends writes count =
      if up then (if mends then count
      else (if writes then up_to_first (up_to_first count c.fail_read) c.fail_write else up_to_first count c.fail_read))
      else 0

  span_by-there : (up mends writes : Bool) (k count : ℕ) → is_available c.initial ≡ up → is_available c.on_error ≡ mends
      → write_runs c.initial ≡ writes
      → k < span_by up mends writes count → (k < count) × (is_there_by k c ≡ true)
  span_by-there false mends writes k count up mend write below = absurd (omega (arith, below))
  span_by-there true true writes k count up mend write below = (below, always_there up mend k)
  span_by-there true false false k count up mend write below =
      let parts = up_to_first-within k count c.fail_read below in
      let none : (n : ℕ) → n < k → has_failed c c.initial n ≡ false = λ n before.
      fails_from c.initial n (none_before k c.fail_read parts.1 n before)
      (λ runs. absurd (true≢false (sym runs ∙ write))) in
      (parts.0, ap is_available (unfailed k none) ∙ up)
  span_by-there true false true k count up mend write below =
      let wrote = up_to_first-within k (up_to_first count c.fail_read) c.fail_write below in
      let parts = up_to_first-within k count c.fail_read wrote.0 in
      let none : (n : ℕ) → n < k → has_failed c c.initial n ≡ false = λ n before.
      fails_from c.initial n (none_before k c.fail_read parts.1 n before)
      (λ runs. none_before k c.fail_write wrote.1 n before) in
      (parts.0, ap is_available (unfailed k none) ∙ up)

  span_by-from : (up mends writes : Bool) (k count : ℕ) → is_available c.initial ≡ up → is_available c.on_error ≡ mends
      → write_runs c.initial ≡ writes
      → k < count → is_there_by k c ≡ true → k < span_by up mends writes count
  span_by-from false mends writes k count up mend write below there = absurd (true≢false (sym there ∙ never_there up k))
  span_by-from true true writes k count up mend write below there = below
  span_by-from true false false k count up mend write below there =
      up_to_first-from k count c.fail_read below
      (none_listed k c.fail_read (λ n before. (fails_parts c.initial n up (none_failed mend k there n before)).0))
  span_by-from true false true k count up mend write below there =
      up_to_first-from k (up_to_first count c.fail_read) c.fail_write
      (up_to_first-from k count c.fail_read below
      (none_listed k c.fail_read (λ n before. (fails_parts c.initial n up (none_failed mend k there n before)).0)))
      (none_listed k c.fail_write
      (λ n before. (fails_parts c.initial n up (none_failed mend k there n before)).1 write))

-- within its span a component is there, and while it is there this is its span
pub span-there : (c : CompDesc) (k count : ℕ) → k < span_of count c → (k < count) × (is_there_by k c ≡ true)
span-there c k count below =
    span_by-there c (is_available c.initial) (is_available c.on_error) (write_runs c.initial) k count refl refl refl
    below

pub there-span : (c : CompDesc) (k count : ℕ) → k < count → is_there_by k c ≡ true → k < span_of count c
there-span c k count below there =
    span_by-from c (is_available c.initial) (is_available c.on_error) (write_runs c.initial) k count refl refl refl
    below there

-- ---- The least of some spans

module _ (k : ℕ) where
  less-within : (least span : ℕ) → k < (if nat_lt span least then span else least) → (k < least) × (k < span)
  less-within least span below =
      elim (cases_lt span least) [
        | inl before ↦
            let less : k < span =
            subst (λ n. k < n) (first_chosen (nat_lt span least) span least (lt-ltb span least before)) below in
            (omega (arith, less, before), less)
        | inr after ↦
            let less : k < least =
            subst (λ n. k < n) (second_chosen (nat_lt span least) span least (at_least span least after)) below in
            (less, omega (arith, less, after))
      ]

  less-from : (least span : ℕ) → k < least → k < span → k < (if nat_lt span least then span else least)
  less-from least span below within =
      elim (cases_lt span least) [
        | inl before ↦ subst (λ n. k < n) (sym (first_chosen (nat_lt span least) span least (lt-ltb span least before)))
            within
        | inr after ↦ subst (λ n. k < n)
            (sym (second_chosen (nat_lt span least) span least (at_least span least after))) below
      ]

  found-within : (least : ℕ) (o : Option ℕ)
      → k < option_map_or (λ span. if nat_lt span least then span else least) o least
      → (k < least) × ((span : ℕ) → o ≡ Some span → k < span)
  found-within least None below = (below, λ span none. cc)
  found-within least (Some one) below =
      let both = less-within least one below in (both.0, λ span is. subst (λ n. k < n) (same_Some one span is) both.1)

  found-from : (least : ℕ) (o : Option ℕ) → k < least → ((span : ℕ) → o ≡ Some span → k < span)
      → k < option_map_or (λ span. if nat_lt span least then span else least) o least
  found-from least None below each = below
  found-from least (Some one) below each = less-from least one below (each one refl)

  pub least_span-within : (spans : List ℕ) (least : ℕ) (places : List ℕ) → k < least_span spans least places
      → (k < least) × ((place span : ℕ) → Contains places place → slice_get spans place ≡ Some span → k < span)
  least_span-within spans least [] below = (below, λ place span inside. absurd (none_inside place inside))
  least_span-within spans least (first ∷ places) below =
      let rest = least_span-within spans
      (option_map_or (λ span. if nat_lt span least then span else least) (slice_get spans first) least) places below in
      let both = found-within least (slice_get spans first) rest.0 in (
        both.0,
        λ place span inside is.
            elim (first_or_later first places place inside) [
              | inl same ↦ both.1 span (ap (slice_get spans) same ∙ is)
              | inr after ↦ rest.1 place span after is
            ],
      )

  pub least_span-from : (spans : List ℕ) (least : ℕ) (places : List ℕ) → k < least
      → ((place span : ℕ) → Contains places place → slice_get spans place ≡ Some span → k < span)
      → k < least_span spans least places
  least_span-from spans least [] below each = below
  least_span-from spans least (first ∷ places) below each =
      least_span-from spans
      (option_map_or (λ span. if nat_lt span least then span else least) (slice_get spans first) least) places
      (found-from least (slice_get spans first) below (λ span is. each first span (here first places) is))
      (λ place span inside is. each place span (later first places place inside) is)

  pub least_of_rows-within : (spans : List ℕ) (least : ℕ) (rows : List (List ℕ)) → k < least_of_rows spans least rows
      → (k < least)
      × ((row : List ℕ) (place span : ℕ) → Contains rows row → Contains row place → slice_get spans place ≡ Some span
      → k < span)
  least_of_rows-within spans least [] below = (below, λ row place span inside. absurd (none_inside row inside))
  least_of_rows-within spans least (first ∷ rows) below =
      let rest = least_of_rows-within spans (least_span spans least first) rows below in
      let both = least_span-within spans least first rest.0 in (
        both.0,
        λ row place span inside has is.
            elim (first_or_later first rows row inside) [
              | inl same ↦ both.1 place span (subst (λ r. Contains r place) (sym same) has) is
              | inr after ↦ rest.1 row place span after has is
            ],
      )

  pub least_of_rows-from : (spans : List ℕ) (least : ℕ) (rows : List (List ℕ)) → k < least
      → ((row : List ℕ) (place span : ℕ) → Contains rows row → Contains row place → slice_get spans place ≡ Some span
      → k < span)
      → k < least_of_rows spans least rows
  least_of_rows-from spans least [] below each = below
  least_of_rows-from spans least (first ∷ rows) below each =
      least_of_rows-from spans (least_span spans least first) rows
      (least_span-from spans least first below (λ place span has is. each first place span (here first rows) has is))
      (λ row place span inside has is. each row place span (later first rows row inside) has is)
