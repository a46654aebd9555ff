-- The first cycle that fits is the first within the spans of all components that are used, and that no controller
-- lists.
use Rattle.std.proofs.Common.{◌≡◌, ℕ, zero, suc, ◌+◌, ◌<◌, ◌≤◌, Bool, true, false, List, []}
use Rattle.std.proofs.Common.{◌∷◌, length, map, Option, Some, None, inl, inr, refl, sym, ◌∙◌}
use Rattle.std.proofs.Common.{ap, ap₂, subst, arith, true≢false, ltb-true, lt-ltb, get_or, cond}
use Rattle.std.specs.Prelude.{nat_lt, not, ◌&&◌, ◌||◌, find, position, slice_get, filter_map}
use Rattle.std.specs.List.{All, Contains, list_any, list_all, position_or_len, range_with_len}
use Rattle.std.specs.Option.{option_map_or}
use Rattle.std.proofs.lemmas.Bool.{cases_lt, and_parts, and_from, or_parts, or_from}
use Rattle.std.proofs.lemmas.Bool.{not-true, not-false, not_from_false, false_from_ne_true}
use Rattle.std.proofs.lemmas.List.Elements.{All-contains}
use Rattle.std.proofs.lemmas.List.Folds.{list_any-append}
use Rattle.std.proofs.lemmas.List.Quantifiers.{position-Some}
use Rattle.std.proofs.lemmas.List.Sums.{fails_before_first}
use Rattle.std.proofs.lemmas.Option.{same_Some}
use Rattle.cm_document.specs.declared.description.CompDesc.{CompDesc}
use Rattle.cm_document.specs.declared.description.Description.{Description}
use Rattle.cm_document.specs.declared.description.Params.{Params}
use Rattle.cm_document.specs.declared.description.Params.TheVariants.{Mock}
use Rattle.cm_model.specs.Claims.{uses}
use Rattle.cm_model.specs.Components.{is_listed}
use Rattle.cm_model.specs.Faults.{component_with}
use Rattle.cm_model.specs.Kinds.{is_ready_in}
use Rattle.cm_model.specs.Order.{set_of, controller_at}
use Rattle.chain_order.proofs.LinkLemmas.{get_or-each_below}
use Rattle.chain_order.specs.Links.{linked}
use Rattle.switch_plan.specs.Relations.{components_at, relations_of}
use Rattle.switch_plan.proofs.ClearLemmas.{any_found}
use Rattle.switch_plan.proofs.ElementLemmas.{none_inside, here, later, first_or_later, each_fails}
use Rattle.switch_plan.proofs.ElementLemmas.{none_passes, Contains-map, Contains-map_back}
use Rattle.spawn_plan.specs.Fitting.{is_there_by, is_gone_by, can_start, fits, first_fit}
use Rattle.spawn_plan.specs.Spans.{span_of, spans_of, least_of_rows, unready_in, is_unready}
use Rattle.spawn_plan.proofs.SpanLemmas.{span-there, there-span, least_of_rows-within, least_of_rows-from}

-- two tests that pass alike
alike : (a b : Bool) → (a ≡ true → b ≡ true) → (b ≡ true → a ≡ true) → a ≡ b
alike true b there back = sym (there refl)
alike false true there back = back refl
alike false false there back = refl

-- ---- One controller

-- it is ready where it does not list the cycle
ready_is : (params : Params) (k : ℕ) → is_ready_in params k ≡ not (is_listed (unready_in params) k)
ready_is (Mock outs refuse_config not_ready fail_update) k = refl
ready_is _ k = refl

-- a component of a span, by its place
spans_at : (count : ℕ) (cs : List CompDesc) (place : ℕ) (c : CompDesc) → slice_get cs place ≡ Some c
    → slice_get (spans_of count cs) place ≡ Some (span_of count c)
spans_at count [] place c is = cc
spans_at count (first ∷ cs) zero c is = ap (λ x. Some (span_of count x)) (same_Some first c is)
spans_at count (first ∷ cs) (suc place) c is = spans_at count cs place c is

spans_from : (count : ℕ) (cs : List CompDesc) (place span : ℕ) → slice_get (spans_of count cs) place ≡ Some span
    → (c : CompDesc) × (slice_get cs place ≡ Some c) × (span_of count c ≡ span)
spans_from count [] place span is = cc
spans_from count (first ∷ cs) zero span is = (first, refl, same_Some (span_of count first) span is)
spans_from count (first ∷ cs) (suc place) span is = spans_from count cs place span is

-- a place of a gone component has one
gone_of : (k : ℕ) (o : Option CompDesc) → option_map_or (λ c. not (is_there_by k c)) o false ≡ true
    → (c : CompDesc) × (o ≡ Some c) × (is_there_by k c ≡ false)
gone_of k None gone = cc
gone_of k (Some c) gone = (c, refl, not-true (is_there_by k c) gone)

module _ (d : Description) (k : ℕ) where
  -- the components that it uses are those of its row
  uses_row : (place : ℕ)
      → uses d.components (is_gone_by d.components k) (controller_at d.controllers place)
      ≡ list_any (is_gone_by d.components k) (components_at d place)
  uses_row place =
      let c = controller_at d.controllers place in
      let test = is_gone_by d.components k in
      let found = component_with d.components in
      list_any-append (λ name. option_map_or test (found name) false) c.claims c.reads
      ∙ sym (ap₂ (λ a b. a || b) (any_found test found c.claims) (any_found test found c.reads))
      ∙ sym (list_any-append test (filter_map found c.claims) (filter_map found c.reads))

  can_start-parts : (place : ℕ) → can_start d k place ≡ true
      → (is_listed (unready_in (controller_at d.controllers place).params) k ≡ false)
      × (list_any (is_gone_by d.components k) (components_at d place) ≡ false)
  can_start-parts place can =
      let c = controller_at d.controllers place in
      let parts = and_parts (is_ready_in c.params k) (not (uses d.components (is_gone_by d.components k) c)) can in (
        not-true (is_listed (unready_in c.params) k) (sym (ready_is c.params k) ∙ parts.0),
        sym (uses_row place) ∙ not-true (uses d.components (is_gone_by d.components k) c) parts.1,
      )

  can_start-from : (place : ℕ) → is_listed (unready_in (controller_at d.controllers place).params) k ≡ false
      → list_any (is_gone_by d.components k) (components_at d place) ≡ false
      → can_start d k place ≡ true
  can_start-from place unlisted there =
      let c = controller_at d.controllers place in
      and_from (is_ready_in c.params k) (not (uses d.components (is_gone_by d.components k) c))
      (ready_is c.params k ∙ not_from_false (is_listed (unready_in c.params) k) unlisted)
      (not_from_false (uses d.components (is_gone_by d.components k) c) (uses_row place ∙ there))

  -- ---- All of them

  fits-parts : (places : List ℕ) → fits d places k ≡ true
      → (is_unready d.controllers places k ≡ false)
      × ((place : ℕ) → Contains places place → list_any (is_gone_by d.components k) (components_at d place) ≡ false)
  fits-parts [] fit = (refl, λ place inside. absurd (none_inside place inside))
  fits-parts (first ∷ places) fit =
      let parts = and_parts (can_start d k first) (list_all (can_start d k) places) fit in
      let one = can_start-parts first parts.0 in
      let rest = fits-parts places parts.1 in (
        or_from (is_listed (unready_in (controller_at d.controllers first).params) k)
            (is_unready d.controllers places k) one.0 rest.0,
        λ place inside.
            elim (first_or_later first places place inside) [
              | inl same ↦ subst (λ p. list_any (is_gone_by d.components k) (components_at d p) ≡ false) same one.1
              | inr after ↦ rest.1 place after
            ],
      )

  fits-from : (places : List ℕ) → is_unready d.controllers places k ≡ false
      → ((place : ℕ) → Contains places place → list_any (is_gone_by d.components k) (components_at d place) ≡ false)
      → fits d places k ≡ true
  fits-from [] ready there = refl
  fits-from (first ∷ places) ready there =
      let parts = or_parts (is_listed (unready_in (controller_at d.controllers first).params) k)
      (is_unready d.controllers places k) ready in
      and_from (can_start d k first) (list_all (can_start d k) places)
      (can_start-from first parts.0 (there first (here first places)))
      (fits-from places parts.1 (λ place inside. there place (later first places place inside)))

-- ---- By spans

-- the span of all components that these use
abbrev pub end_of : Description → List ℕ → ℕ
end_of d places =
    least_of_rows (spans_of d.cycles d.components) d.cycles (map (linked (relations_of d).components) places)

-- the row of a described controller
row_at : (d : Description) (place : ℕ) → place < length d.controllers
    → linked (relations_of d).components place ≡ components_at d place
row_at d place within = get_or-each_below (components_at d) (length d.controllers) place [] within

module _ (d : Description) (places : List ℕ) (within : All (λ place. place < length d.controllers) places) (k : ℕ) where
  -- within the span all are there
  all_there : k < end_of d places → (place : ℕ) → Contains places place
      → list_any (is_gone_by d.components k) (components_at d place) ≡ false
  all_there below place inside =
      none_passes (is_gone_by d.components k) (components_at d place) (λ component used.
      false_from_ne_true (is_gone_by d.components k component) (λ gone.
      let c = gone_of k (slice_get d.components component) gone in
      let rows = least_of_rows-within k (spans_of d.cycles d.components) d.cycles
      (map (linked (relations_of d).components) places) below in
      let row = linked (relations_of d).components in
      let less : k < span_of d.cycles c.0 =
      rows.1 (row place) component (span_of d.cycles c.0) (Contains-map row places place inside)
      (subst (λ r. Contains r component)
      (sym (row_at d place (All-contains (λ p. p < length d.controllers) places place within inside))) used)
      (spans_at d.cycles d.components component c.0 c.1) in
      true≢false (sym (span-there c.0 k d.cycles less).1 ∙ c.2)))

  -- and where all are there it is within the span
  within_end : k < d.cycles
      → ((place : ℕ) → Contains places place → list_any (is_gone_by d.components k) (components_at d place) ≡ false)
      → k < end_of d places
  within_end below there =
      let row = linked (relations_of d).components in
      least_of_rows-from k (spans_of d.cycles d.components) d.cycles (map row places) below
      (λ r component span inside has is.
      let place = Contains-map_back row places r inside in
      let c = spans_from d.cycles d.components component span is in
      let used : Contains (components_at d place.0) component =
      subst (λ xs. Contains xs component)
      (sym place.2 ∙ row_at d place.0 (All-contains (λ p. p < length d.controllers) places place.0 within place.1))
      has in
      let gone : is_gone_by d.components k component ≡ false =
      each_fails (is_gone_by d.components k) (components_at d place.0) (there place.0 place.1) component used in
      let up : is_there_by k c.0 ≡ true =
      not-false (is_there_by k c.0) (ap (λ o. option_map_or (λ c. not (is_there_by k c)) o false) (sym c.1) ∙ gone) in
      subst (λ n. k < n) c.2 (there-span c.0 k d.cycles below up))

  -- So a cycle of the run fits if it is within the span and nobody lists it.
  pub fits_is : k < d.cycles → fits d places k ≡ (nat_lt k (end_of d places) && not (is_unready d.controllers places k))
  fits_is below =
      alike (fits d places k) (nat_lt k (end_of d places) && not (is_unready d.controllers places k))
      (λ fit.
      let parts = fits-parts d k places fit in
      and_from (nat_lt k (end_of d places)) (not (is_unready d.controllers places k))
      (lt-ltb k (end_of d places) (within_end below parts.1))
      (not_from_false (is_unready d.controllers places k) parts.0))
      (λ both.
      let parts = and_parts (nat_lt k (end_of d places)) (not (is_unready d.controllers places k)) both in
      fits-from d k places (not-true (is_unready d.controllers places k) parts.1)
      (all_there (ltb-true k (end_of d places) parts.0)))

  -- the span is no longer than the run
  pub end_within : k < end_of d places → k < d.cycles
  end_within below =
      (least_of_rows-within k (spans_of d.cycles d.components) d.cycles
      (map (linked (relations_of d).components) places) below).0

-- ---- The first of a range

module _ (test : ℕ → Bool) where
  find_one : (b : Bool) (x : ℕ) (rest : Option ℕ) → b ≡ true → cond b (Some x) rest ≡ Some x
  find_one true x rest e = refl
  find_one false x rest e = cc

  find_other : (b : Bool) (x : ℕ) (rest : Option ℕ) → b ≡ false → cond b (Some x) rest ≡ rest
  find_other true x rest e = cc
  find_other false x rest e = refl

  find_range : (first count i : ℕ) → first ≤ i → i < first + count → test i ≡ true
      → ((j : ℕ) → first ≤ j → j < i → test j ≡ false) → find test (range_with_len first count) ≡ Some i
  find_range first zero i from below passes fails = absurd (omega (arith, from, below))
  find_range first (suc count) i from below passes fails =
      elim (cases_lt first i) [
        | inl before ↦
            find_other (test first) first (find test (range_with_len (first + 1) count))
            (fails first (omega arith) before)
            ∙ find_range (first + 1) count i (omega (arith, before)) (omega (arith, below)) passes
            (λ j after less. fails j (omega (arith, after)) less)
        | inr not_before ↦
            let e : first ≡ i = omega (arith, from, not_before) in
            find_one (test first) first (find test (range_with_len (first + 1) count)) (ap test e ∙ passes)
            ∙ ap (λ (n : ℕ). Some n) e
      ]

  find_no_range : (first count : ℕ) → ((j : ℕ) → first ≤ j → j < first + count → test j ≡ false)
      → find test (range_with_len first count) ≡ None
  find_no_range first zero fails = refl
  find_no_range first (suc count) fails =
      find_other (test first) first (find test (range_with_len (first + 1) count))
      (fails first (omega arith) (omega arith))
      ∙ find_no_range (first + 1) count (λ j after less. fails j (omega (arith, after)) (omega (arith, less)))

-- where nothing is found, nothing passes
passes_none : {A : Type 0} (test : A → Bool) (xs : List A) → position test xs ≡ None → (k : ℕ) (d : A) → k < length xs
    → test (get_or xs k d) ≡ false
passes_none test xs none k d below =
    elim (cases_lt (position_or_len test xs) (length xs)) [
      | inl inside ↦
          (let found : position test xs ≡ Some (position_or_len test xs) =
          rw (lt-ltb (position_or_len test xs) (length xs) inside) refl in
          let no : None ≡ Some (position_or_len test xs) = sym none ∙ found in cc)
      | inr past ↦ fails_before_first test xs k d (omega (arith, past, below))
    ]

-- ---- By marks

module _ (d : Description) (places : List ℕ) (within : All (λ place. place < length d.controllers) places)
    (marks : List Bool) (long : length marks ≡ end_of d places)
    (marked : (k : ℕ) → k < end_of d places → set_of marks k ≡ is_unready d.controllers places k) where
  mark_at : (k : ℕ) → k < end_of d places → not (get_or marks k false) ≡ fits d places k
  mark_at k below =
      ap not (marked k below)
      ∙ sym (ap (λ b. b && not (is_unready d.controllers places k)) (lt-ltb k (end_of d places) below))
      ∙ sym (fits_is d places within k (end_within d places within k below))

  past_end : (k : ℕ) → end_of d places ≤ k → k < d.cycles → fits d places k ≡ false
  past_end k past below =
      fits_is d places within k below
      ∙ ap (λ b. b && not (is_unready d.controllers places k))
      (false_from_ne_true (nat_lt k (end_of d places)) (λ less. omega (arith, ltb-true k (end_of d places) less, past)))

  by_marks : (o : Option ℕ) → position (λ mark. not mark) marks ≡ o
      → o ≡ find (fits d places) (range_with_len 0 d.cycles)
  by_marks None found =
      sym (find_no_range (fits d places) 0 d.cycles (λ k from below.
      elim (cases_lt k (end_of d places)) [
        | inl inside ↦ sym (mark_at k inside)
            ∙ passes_none (λ mark. not mark) marks found k false (omega (arith, inside, long))
        | inr past ↦ past_end k past (omega (arith, below))
      ]))
  by_marks (Some i) found =
      let r = position-Some (λ mark. not mark) marks i false found in
      let inside : i < end_of d places = omega (arith, r.0, long) in
      sym (find_range (fits d places) 0 d.cycles i (omega arith) (omega (arith, end_within d places within i inside))
      (sym (mark_at i inside) ∙ r.1)
      (λ j from less. sym (mark_at j (omega (arith, less, inside))) ∙ r.2 j less))

  -- The first cycle without a mark is the first that fits.
  pub first_fit_is : position (λ mark. not mark) marks ≡ first_fit d places
  unfolding first_fit
  first_fit_is = by_marks (position (λ mark. not mark) marks) refl
