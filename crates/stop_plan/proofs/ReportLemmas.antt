-- The report of a cycle, as the rules read it.
use Rattle.std.proofs.Common.{◌≡◌, ℕ, zero, suc, ◌<◌, Bool, true, false, List, [], ◌∷◌, ◌++◌, length}
use Rattle.std.proofs.Common.{map, Option, Some, None, inl, inr, refl, sym, ◌∙◌, ap, ap₂, arith}
use Rattle.std.specs.Prelude.{◌==◌, ◌&&◌, ◌||◌, filter, filter_map, zip, slice_get}
use Rattle.std.specs.List.{All, Contains, list_any, range_with_len}
use Rattle.std.specs.Option.{option_map_or}
use Rattle.std.proofs.Math.Path.{fun_ext}
use Rattle.std.proofs.lemmas.Bool.{cases_lt, and_parts, and_from, eqb-true, eq-eqb}
use Rattle.std.proofs.lemmas.List.{get_or_past}
use Rattle.std.proofs.lemmas.List.Folds.{list_any-append}
use Rattle.std.proofs.lemmas.List.FromFn.{length-range_with_len, get_or-range_with_len}
use Rattle.std.specs.Cmp.{both_ways}
use Rattle.sequence.proofs.ListLemmas.{any_map}
use Rattle.cm_document.specs.declared.description.CompDesc.{CompDesc}
use Rattle.cm_document.specs.declared.description.CtlDesc.{CtlDesc}
use Rattle.cm_document.specs.declared.description.Description.{Description}
use Rattle.cm_document.specs.declared.life.Life.{Life}
use Rattle.cm_model.specs.Claims.{uses}
use Rattle.cm_model.specs.Components.{read_fails, write_fails, has_failed}
use Rattle.cm_model.specs.Cycle.{component_is, components_where, failed_in, active_order, has_erred, is_struck, struck}
use Rattle.cm_model.specs.Faults.{component_with}
use Rattle.cm_model.specs.Order.{nobody, controller_at, precedes_at, places_of}
use Rattle.cm_storage.specs.Ran.{Ran}
use Rattle.cm_model.specs.State.{State, Loaded, is_active, active}
use Rattle.cm_storage.specs.declared.ran.Done.{Done}
use Rattle.cm_storage.specs.declared.ran.Done.TheVariants as done
use Rattle.cm_storage.specs.declared.record.FailedPart.{FailedPart}
use Rattle.chain_order.specs.Links.{places_below, each_below, linked}
use Rattle.chain_order.proofs.LinkLemmas.{length-each_below, get_or-each_below}
use Rattle.switch_plan.specs.Relations.{components_at, relations_of}
use Rattle.switch_plan.proofs.ClearLemmas.{any_found}
use Rattle.switch_plan.proofs.ElementLemmas.{some_of, any_from, filter_back, filter_from}
use Rattle.sound_laws.proofs.ActiveLemmas.{in_active_order, from_active_order}
use Rattle.stop_plan.specs.Ending.{member_of, members_in_order, is_error, erred_in, told_in, IsReportOf}
use Rattle.stop_plan.specs.Reports.{IsReport, count_in, is_struck_in, places_where}
use Rattle.stop_plan.specs.declared.report.Report.{Report}

-- ---- Tests

-- tests that agree on each item
pub any_alike : {A : Type 0} (f g : A → Bool) → ((x : A) → f x ≡ g x) → (xs : List A) → list_any f xs ≡ list_any g xs
any_alike f g same [] = refl
any_alike f g same (x ∷ xs) = ap₂ (λ a b. a || b) (same x) (any_alike f g same xs)

-- what is asked of the active controllers is asked of their order
pub any_in_order : (s : State) (test : Loaded → Bool)
    → list_any test (active_order s) ≡ list_any (λ l. is_active l && test l) s.loaded
any_in_order s test =
    both_ways (list_any test (active_order s)) (list_any (λ l. is_active l && test l) s.loaded) there back
  where
    there : list_any test (active_order s) ≡ true → list_any (λ l. is_active l && test l) s.loaded ≡ true
    there any =
        let r = some_of test (active_order s) any in
        let from = from_active_order s r.0 r.1 in
        any_from (λ (l : Loaded). is_active l && test l) s.loaded r.0 from.0
        (and_from (is_active r.0) (test r.0) from.1 r.2)

    back : list_any (λ l. is_active l && test l) s.loaded ≡ true → list_any test (active_order s) ≡ true
    back any =
        let r = some_of (λ (l : Loaded). is_active l && test l) s.loaded any in
        let parts = and_parts (is_active r.0) (test r.0) r.2 in
        any_from test (active_order s) r.0 (in_active_order s r.0 r.1 parts.0) parts.1

-- ---- The order

-- the places in the order are those of the active controllers
pub places_in_order : (s : State) (p : ℕ) → places_of (members_in_order s) p ≡ active s p
places_in_order s p = any_map (λ m. m.place == p) member_of (active_order s) ∙ any_in_order s (λ l. l.place == p)

-- ---- Components that failed

-- a place is told where it passes
told_place : (test : ℕ → Bool) (n k : ℕ) → (test k ≡ true → k < n)
    → list_any (λ p. p == k) (filter test (range_with_len 0 n)) ≡ test k
told_place test n k within =
    both_ways (list_any (λ p. p == k) (filter test (range_with_len 0 n))) (test k) there
    (λ passes. any_from (λ p. p == k) (filter test (range_with_len 0 n)) k
    (filter_from test (range_with_len 0 n) k (inside (within passes)) passes) (eq-eqb k k refl))
  where
    inside : k < n → Contains (range_with_len 0 n) k
    inside below =
        (k, omega (arith, below, length-range_with_len 0 n), get_or-range_with_len 0 n k k below ∙ omega arith)

    there : list_any (λ p. p == k) (filter test (range_with_len 0 n)) ≡ true → test k ≡ true
    there any =
        let r = some_of (λ p. p == k) (filter test (range_with_len 0 n)) any in
        ap test (sym (eqb-true r.0 k r.2)) ∙ (filter_back test (range_with_len 0 n) r.0 r.1).1

-- what holds of a component holds of a described one
described_one : (test : CompDesc → Life → ℕ → Bool) (ended : ℕ) (cs : List CompDesc) (lives : List Life) (k : ℕ)
    → option_map_or (λ each. test each.0 each.1 ended) (slice_get (zip cs lives) k) false ≡ true → k < length cs
described_one test ended [] lives k is = cc
described_one test ended (c ∷ cs) [] k is = cc
described_one test ended (c ∷ cs) (life ∷ lives) zero is = omega arith
described_one test ended (c ∷ cs) (life ∷ lives) (suc k) is =
    let below = described_one test ended cs lives k is in omega (arith, below)

-- a read or a write failed where a component did
failed_either : (ended : ℕ) (o : Option (CompDesc × Life))
    → (option_map_or (λ each. read_fails each.0 each.1 ended) o false
    || option_map_or (λ each. write_fails each.0 each.1 ended) o false)
    ≡ option_map_or (λ each. has_failed each.0 each.1 ended) o false
failed_either ended None = refl
failed_either ended (Some each) = refl

-- a component is told to have failed where it did
pub told_failed : (s : State) (k : ℕ) → list_any (λ part. part.place == k) (failed_in s) ≡ component_is has_failed s k
told_failed s k =
    let n = length s.description.components in
    let reads : List ℕ = components_where (component_is read_fails s) s in
    let writes : List ℕ = components_where (component_is write_fails s) s in
    let read : ℕ → FailedPart = λ place. record { place = place; reading = true } in
    let written : ℕ → FailedPart = λ place. record { place = place; reading = false } in
    list_any-append (λ part. part.place == k) (map read reads) (map written writes)
    ∙ ap₂ (λ a b. a || b) (any_map (λ part. part.place == k) read reads)
    (any_map (λ part. part.place == k) written writes)
    ∙ ap₂ (λ a b. a || b)
    (told_place (component_is read_fails s) n k (described_one read_fails s.ended s.description.components s.lives k))
    (told_place (component_is write_fails s) n k (described_one write_fails s.ended s.description.components s.lives k))
    ∙ failed_either s.ended (slice_get (zip s.description.components s.lives) k)

-- ---- Updates that failed

pub told_erred : (ran : List Ran) (serial : ℕ) → list_any (λ n. n == serial) (erred_in ran) ≡ has_erred ran serial
told_erred [] serial = refl
told_erred (each ∷ others) serial = by_end each.done (told_erred others serial)
  where
    both : (b : Bool) → (b && true) ≡ b
    both true = refl
    both false = refl

    neither : (b : Bool) → (b && false) ≡ false
    neither true = refl
    neither false = refl

    by_end : (end : Done) → list_any (λ n. n == serial) (erred_in others) ≡ has_erred others serial
        → list_any (λ n. n == serial)
        (map (λ (r : Ran). r.serial) (filter (λ (r : Ran). is_error r.done) (record each { done = end } ∷ others)))
        ≡ ((each.serial == serial && elim end [ done.Ok ↦ false | done.Error ↦ true ]) || has_erred others serial)
    by_end done.Ok rest = rest ∙ sym (ap (λ b. b || has_erred others serial) (neither (each.serial == serial)))
    by_end done.Error rest = ap₂ (λ a b. a || b) (sym (both (each.serial == serial))) rest

-- ---- Who was struck

-- a component of a controller passes where it uses one that passes
uses_some : (d : Description) (test : ℕ → Bool) (c : CtlDesc)
    → list_any test
    (filter_map (component_with d.components) c.claims ++ filter_map (component_with d.components) c.reads)
    ≡ uses d.components test c
uses_some d test c =
    list_any-append test (filter_map (component_with d.components) c.claims)
    (filter_map (component_with d.components) c.reads)
    ∙ ap₂ (λ a b. a || b) (any_found test (component_with d.components) c.claims)
    (any_found test (component_with d.components) c.reads)
    ∙ sym (list_any-append (λ name. option_map_or test (component_with d.components name) false) c.claims c.reads)

uses_at : (d : Description) (test : ℕ → Bool) (p : ℕ)
    → list_any test (linked (relations_of d).components p) ≡ uses d.components test (controller_at d.controllers p)
uses_at d test p =
    elim (cases_lt p (length d.controllers)) [
      | inl below ↦
          ap (list_any test) (get_or-each_below (components_at d) (length d.controllers) p [] below)
          ∙ uses_some d test (controller_at d.controllers p)
      | inr past ↦
          ap (list_any test)
          (get_or_past (each_below (components_at d) (length d.controllers)) p []
          (omega (arith, past, length-each_below (components_at d) (length d.controllers))))
          ∙ sym (ap (uses d.components test) (get_or_past d.controllers p nobody past))
    ]

module _ (s : State) (r : Report) (of : IsReportOf s r) where
  struck_alike : (l : Loaded) → is_struck_in r (member_of l) ≡ is_struck s (told_in s) l
  struck_alike l =
      ap₂ (λ a b. a || b)
      (ap₂ {C = Bool} list_any (fun_ext (λ k. ap (list_any (λ part. part.place == k)) of.failed ∙ told_failed s k))
      (ap (λ w. linked w.components l.place) of.relations)
      ∙ uses_at s.description (component_is has_failed s) l.place)
      (ap (list_any (λ n. n == l.serial)) of.erred ∙ told_erred (told_in s) l.serial)

  -- The controllers that the report says were struck are the struck ones.
  pub struck_told : (p : ℕ) → places_where (is_struck_in r) r.order.now p ≡ struck s (told_in s) p
  struck_told p =
      ap (λ ms. places_where (is_struck_in r) ms p) of.order
      ∙ any_map (λ m. m.place == p && is_struck_in r m) member_of (active_order s)
      ∙ any_alike (λ l. l.place == p && is_struck_in r (member_of l)) (λ l. l.place == p && is_struck s (told_in s) l)
      (λ l. ap (λ b. l.place == p && b) (struck_alike l)) (active_order s)
      ∙ any_in_order s (λ l. l.place == p && is_struck s (told_in s) l)

-- ---- What each report has

-- as many controllers are described as have relations
pub count_so : (d : Description) (r : Report) → r.relations.now ≡ relations_of d → count_in r ≡ length d.controllers
count_so d r relations =
    let n = length d.controllers in
    ap (λ w. length w.leaders) relations
    ∙ length-each_below (λ q. places_below (λ p. precedes_at d.controllers p q) n) n

-- The report of a cycle has the relations of each, where they are those of the description.
pub whole_report : (d : Description) (r : Report) → r.relations.now ≡ relations_of d
    → All (λ m. m.place < length d.controllers) r.order.now → IsReport r
whole_report d r relations within =
    let n = length d.controllers in
    let count : count_in r ≡ n = count_so d r relations in
    record {
      followers = ap (λ w. length w.followers) relations
          ∙ length-each_below (λ q. places_below (precedes_at d.controllers q) n) n ∙ sym count;
      components = ap (λ w. length w.components) relations ∙ length-each_below (components_at d) n ∙ sym count;
      within = λ k m below. let here = within k m below in omega (arith, count, here);
    }
