-- The end of a cycle keeps a state steady.
use Rattle.std.proofs.Common.{◌≡◌, ℕ, zero, suc, ◌+◌, ◌<◌, true, false, List, [], ◌∷◌}
use Rattle.std.proofs.Common.{length, map, refl, sym, ◌∙◌, subst, ap, true≢false, arith}
use Rattle.std.specs.Prelude.{◌==◌, not, zip, slice_get}
use Rattle.std.specs.List.{AllByRecursion, IsDistinct}
use Rattle.std.specs.Option.{option_map_or}
use Rattle.std.proofs.Math.Path.{fun_ext}
use Rattle.std.proofs.lemmas.Bool.{and_parts}
use Rattle.fixed_num.specs.declared.value.BodyState.{BodyState}
use Rattle.cm_document.proofs.DistinctLemmas.{all_so, all_map}
use Rattle.cm_document.specs.Links.{joints_of}
use Rattle.cm_document.specs.Places.{Whose, of_joint, of_controller, Interface, interfaces_of}
use Rattle.cm_document.specs.Valid.{IsValid}
use Rattle.cm_document.specs.declared.description.CompDesc.{CompDesc}
use Rattle.cm_document.specs.declared.life.Life.{Life}
use Rattle.cm_model.proofs.InterfaceLemmas.{all_map_back}
use Rattle.cm_model.proofs.LoadedLemmas.{all_from}
use Rattle.cm_model.proofs.MoveLemmas.{moved_in_order}
use Rattle.cm_model.proofs.UpdateLemmas.{updates_keep, updates_leave_active, updates_keep_interfaces, step_keeps_place}
use Rattle.cm_model.specs.Commit.{commit}
use Rattle.cm_model.specs.Components.{is_available, is_listed, read_succeeds, life_after}
use Rattle.cm_model.specs.Cycle.{component_is, updated_in, Updates, updates, components_stepped, CycleResult}
use Rattle.cm_model.specs.Cycle.{cycle_with, cycle, stays_active, lives_after, landed, after_cycle}
use Rattle.cm_model.specs.Loans.{IsEmptyUnless, IsUnsetUnlessClaimed, IsMarked}
use Rattle.cm_storage.specs.Ran.{Ran}
use Rattle.cm_model.specs.State.{State, Loaded, is_active, available_in}
use Rattle.cm_model.specs.Steady.{has_loaded, HoldsNumber, HasBody, IsInOrder, IsSteady}
use Rattle.cm_model.specs.Values.{InterfaceValue, running, after_reads}
use Rattle.sound_laws.proofs.ActiveLemmas.{updated_active}
use Rattle.sound_laws.proofs.BootLemmas.{interfaces_below}
use Rattle.sound_laws.proofs.ClaimedLemmas.{updated_there}
use Rattle.sound_laws.proofs.ParamsLemmas.{active_params, commit_of}
use Rattle.sound_laws.proofs.ReadLemmas.{reads_same, reads_hold, reads_empty, reads_unclaimed}
use Rattle.sound_laws.proofs.StopLemmas.{stays_parts, stays_together}
use Rattle.sound_laws.proofs.UpdatedLemmas.{updates_own, updates_marked, updates_hold}
use Rattle.sound_laws.proofs.UpdatedLemmas.{updates_empty, updates_unclaimed, stepped_below}
use Rattle.sound_laws.proofs.ValidLemmas.{IsChecked, valid-IsChecked}

-- ---- What the cycle leaves

-- an interface of a joint with a body that is one of the described joints has a body after the step
body_after : (joints before after : ℕ) → ((k : ℕ) → k < joints → k < before → k < after) → (whose : Whose)
    → HasBody joints whose → HasBody before whose → HasBody after whose
body_after joints before after steps (of_joint component joint) described body = steps joint described body
body_after joints before after steps (of_controller place) described body = tt

zip_count : (ended : ℕ) (cs : List CompDesc) (lives : List Life) → length lives ≡ length cs
    → length (map (λ p. life_after p.0 p.1 ended) (zip cs lives)) ≡ length lives
zip_count ended [] [] as_many = refl
zip_count ended [] (life ∷ lives) as_many = absurd (omega (arith, as_many))
zip_count ended (c ∷ cs) [] as_many = refl
zip_count ended (c ∷ cs) (life ∷ lives) as_many = ap suc (zip_count ended cs lives (omega (arith, as_many)))

-- a component whose read succeeds runs
reads_run : (ended : ℕ) (cs : List CompDesc) (lives : List Life) (k : ℕ)
    → option_map_or (λ p. read_succeeds p.0 p.1 ended) (slice_get (zip cs lives) k) false ≡ true
    → running lives k ≡ true
reads_run ended [] lives k reads = absurd (true≢false (sym reads))
reads_run ended (c ∷ cs) [] k reads = absurd (true≢false (sym reads))
reads_run ended (c ∷ cs) (life ∷ lives) zero reads =
    (and_parts (is_available life) (not (is_listed c.fail_read ended)) reads).0
reads_run ended (c ∷ cs) (life ∷ lives) (suc k) reads = reads_run ended cs lives k reads

module _ (s : State) (checked : IsChecked s.description) (steady : IsSteady s) where
  abbrev kept : IsInOrder s
  kept = steady.in_order

  -- what the interfaces hold after the reads
  abbrev read : List InterfaceValue
  read = after_reads (component_is read_succeeds s) s.bodies s.values

  abbrev begun : Updates
  begun = record { loaded = s.loaded; values = read; ran = [] }

  abbrev made : Updates
  made = updates s read

  abbrev stepped : List BodyState
  stepped = components_stepped s made.values 0 s.description.components s.bodies

  -- the state after the updates and steps, before components move
  abbrev updated : State
  updated = record s
      { loaded = made.loaded; values = made.values; bodies = stepped; ended = s.ended + 1; aloft = false; mails = [] }

  same_active : has_loaded is_active made.loaded ≡ has_loaded is_active s.loaded
  same_active = fun_ext (λ p. updates_leave_active s read p)

  same_interfaces : map (λ (v : InterfaceValue). v.interface) made.values ≡ interfaces_of s.description
  same_interfaces =
      updates_keep_interfaces s begun (updated_in s) ∙ reads_same (component_is read_succeeds s) s.bodies s.values
      ∙ kept.described

  bodies_stay : AllByRecursion (λ v. HasBody (length stepped) v.interface.whose) made.values
  bodies_stay =
      let n = length (joints_of s.description.components) in
      let before : AllByRecursion (λ (x : Interface). HasBody (length s.bodies) x.whose) (interfaces_of s.description) =
      subst (AllByRecursion (λ (x : Interface). HasBody (length s.bodies) x.whose)) kept.described
      (all_map (λ (x : Interface). HasBody (length s.bodies) x.whose) (λ (v : InterfaceValue). v.interface) s.values
      kept.embodied) in
      let after : AllByRecursion (λ (x : Interface). HasBody (length stepped) x.whose) (interfaces_of s.description) =
      all_from (λ (x : Interface). HasBody n x.whose) (λ (x : Interface). HasBody (length s.bodies) x.whose)
      (λ (x : Interface). HasBody (length stepped) x.whose)
      (λ x described body. body_after n (length s.bodies) (length stepped)
      (λ k joint below. stepped_below s made.values 0 s.description.components s.bodies k joint below) x.whose described
      body)
      (interfaces_of s.description) (interfaces_below s.description) before in
      all_map_back (λ (x : Interface). HasBody (length stepped) x.whose) (λ (v : InterfaceValue). v.interface)
      made.values
      (subst (AllByRecursion (λ (x : Interface). HasBody (length stepped) x.whose)) (sym same_interfaces) after)

  numbers_stay : AllByRecursion (HoldsNumber (running s.lives)) made.values
  numbers_stay =
      updates_hold s (running s.lives) begun (updated_in s)
      (reads_hold (running s.lives) (component_is read_succeeds s) s.bodies s.values kept.embodied
      (all_so (HoldsNumber (running s.lives)) _ (λ v holds not_read. holds) s.values kept.numbers))

  empty_stay : AllByRecursion (IsEmptyUnless (available_in s.lives (has_loaded is_active s.loaded))) made.values
  empty_stay =
      updates_empty s (available_in s.lives (has_loaded is_active s.loaded)) (interfaces_of s.description) begun
      (updated_in s)
      (reads_same (component_is read_succeeds s) s.bodies s.values ∙ kept.described)
      (updated_there s checked steady.together)
      (reads_empty (component_is read_succeeds s) s.lives (has_loaded is_active s.loaded) s.bodies
      (reads_run s.ended s.description.components s.lives) s.values kept.empty)

  unclaimed_stay : AllByRecursion (IsUnsetUnlessClaimed s.description.controllers (has_loaded is_active s.loaded))
      made.values
  unclaimed_stay =
      updates_unclaimed s (has_loaded is_active s.loaded) begun (updated_in s) (updated_active s)
      (reads_unclaimed (component_is read_succeeds s) s.description.controllers (has_loaded is_active s.loaded) s.bodies
      s.values kept.unclaimed)

  updated_in_order : IsInOrder updated
  updated_in_order = record {
    once = subst (IsDistinct (λ p q. p == q))
        (sym (updates_keep s (λ (l : Loaded). l.place) (λ vs serial l. step_keeps_place s vs serial l) begun
        (updated_in s))) kept.once;
    own = updates_own s begun (updated_in s) kept.own;
    marked = subst (λ set. AllByRecursion (IsMarked s.description.controllers set) made.loaded) (sym same_active)
        (updates_marked s (has_loaded is_active s.loaded) begun (updated_in s) kept.marked);
    counted = kept.counted;
    described = same_interfaces;
    embodied = bodies_stay;
    numbers = numbers_stay;
    empty = subst (λ set. AllByRecursion (IsEmptyUnless (available_in s.lives set)) made.values) (sym same_active)
        empty_stay;
    unclaimed = subst (λ set. AllByRecursion (IsUnsetUnlessClaimed s.description.controllers set) made.values)
        (sym same_active) unclaimed_stay;
  }

  pub landed_in_order : IsInOrder (landed s (cycle_with s made))
  landed_in_order =
      moved_in_order updated (lives_after s) updated_in_order
      (zip_count s.ended s.description.components s.lives kept.counted)

-- ---- What its end leaves

module _ (s : State) (checked : IsChecked s.description) (steady : IsSteady s) where
  abbrev end : CycleResult
  end = cycle_with s (made s checked steady)

  end_steady : (ran : List Ran) → IsSteady (commit (landed s end) (stays_active s ran) (λ p. false))
  end_steady ran =
      let kept = landed_in_order s checked steady in
      commit_of (landed s end) (stays_active s ran) (λ p. false) kept
      (λ p stays. active_params (landed s end) kept p
      (ap (λ f. f p) (same_active s checked steady) ∙ (stays_parts s checked.free ran p stays).0))
      (stays_together s checked.free ran steady.in_order.counted steady.together)

-- The end of a cycle of a valid description leaves a steady state.
pub after_steady : (s : State) → IsValid s.description → IsSteady s → IsSteady (after_cycle s (cycle s))
unfolding after_cycle cycle
after_steady s valid steady =
    let checked = valid-IsChecked s.description valid in
    end_steady s checked steady (cycle_with s (made s checked steady)).happened.ran
