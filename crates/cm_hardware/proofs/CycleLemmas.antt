-- The hardware of a state, read in a cycle and at its end, is that of the state in its cycle and after it.
use Rattle.std.proofs.Common.{◌≡◌, ℕ, ◌+◌, Bool, true, false, List, [], ◌∷◌, ◌++◌, map, length}
use Rattle.std.proofs.Common.{Option, Some, None, refl, sym, subst, ap, ap₂, ◌∙◌, append_assoc}
use Rattle.std.specs.Prelude.{flat_map}
use Rattle.std.specs.List.{AllByRecursion, range_with_len}
use Rattle.std.proofs.lemmas.List.{length-map}
use Rattle.std.proofs.lemmas.List.FromFn.{length-range_with_len}
use Rattle.std.proofs.lemmas.Simd.{map-map}
use Rattle.fixed_num.specs.declared.value.BodyState.{BodyState}
use Rattle.cm_document.specs.Places.{Interface}
use Rattle.cm_document.specs.declared.description.CompDesc.{CompDesc}
use Rattle.cm_model.specs.Components.{command_interfaces, claim_on, read_succeeds, is_written}
use Rattle.cm_model.specs.Cycle.{period, component_is, commands_at, claims_in, components_stepped}
use Rattle.cm_model.specs.Cycle.{moved, lives_after, CycleResult, Updates, updates, landed, cycle}
use Rattle.cm_model.specs.State.{State, owner, available, active}
use Rattle.cm_model.specs.Values.{InterfaceValue, running, read_of}
use Rattle.cm_storage.specs.declared.record.FailedPart.{FailedPart}
use Rattle.cm_model.proofs.StillLemmas.{idle_updates, idle, idle_cycle, idle_ended}
use Rattle.cm_model.proofs.UpdateLemmas.{updates_leave_active}
use Rattle.hw_component.specs.Hardware.{Hardware}
use Rattle.loan_board.specs.declared.board.Loan.{Loan}
use Rattle.cm_hardware.specs.Holding.{AreClaimed, IsAtRest, IsHardwareOf, IsRead, IsInCycle, values_read}
use Rattle.cm_hardware.specs.Holding.{values_updated, reads_failed_in, writes_failed_in, ReadInCycle}
use Rattle.cm_hardware.specs.Holding.{holder, IsLent, IsMoved, FinishedCycle, IsStill, RanCycle}
use Rattle.cm_hardware.specs.Wiring.{Mounted, Wired, AreSound, loan_of, component_of, vacated, has_left, changed_where}
use Rattle.cm_hardware.specs.Wiring.{after_failure, all_written, all_states, all_bodies, read, stepped_on, failed_reads}
use Rattle.cm_hardware.specs.Wiring.{failed_writes, after_reads_in, components_run, after_run}
use Rattle.cm_document.proofs.DistinctLemmas.{all_of}
use Rattle.cm_hardware.proofs.StateLemmas.{agrees_in, reads_are}
use Rattle.cm_hardware.proofs.StillLemmas.{no_owner}
use Rattle.cm_hardware.proofs.FailureLemmas.{reads_told, writes_told}
use Rattle.cm_hardware.proofs.StepLemmas.{Fate, IsFit, ran, fates, lives_then, lives_are, at_rest, bodies_step}
use Rattle.cm_hardware.proofs.StepLemmas.{bodies_stay, joints_stay, claims_stay, descriptions_stay}
use Rattle.cm_hardware.proofs.HeldLemmas.{held_all, claimed_alike}
use Rattle.cm_hardware.proofs.LentLemmas.{updates_keep_owners, lent_alike, moved_is_held}
use Rattle.cm_hardware.proofs.MoveLemmas.{IsEmpty, IsFreeUnlessThere, component_at, moved_of, Moves}
use Rattle.cm_hardware.proofs.MoveLemmas.{places_change, moves, empties, frees, was_there, reads_run}
use Rattle.cm_hardware.proofs.MoveLemmas.{unread, read_keeps, moved_keeps, interfaces_stay, all_of_each}

-- ---- The reads

-- what a read leaves of each component
read_leaves : {B : Type 0} (f : Hardware → B) (n : ℕ) (ms : List Mounted)
    → map (λ (m : Mounted). f m.hardware) (map (read n) ms) ≡ map (λ (m : Mounted). f m.hardware) ms
read_leaves f n [] = refl
read_leaves {B = B} f n (m ∷ ms) = ap (λ (bs : List B). f m.hardware ∷ bs) (read_leaves f n ms)

read_bodies : (n : ℕ) (ms : List Mounted)
    → flat_map (λ (m : Mounted). m.hardware.bodies) (map (read n) ms) ≡ flat_map (λ (m : Mounted). m.hardware.bodies) ms
read_bodies n [] = refl
read_bodies n (m ∷ ms) = ap (λ (bs : List BodyState). m.hardware.bodies ++ bs) (read_bodies n ms)

read_claims : (s : State) (component n : ℕ) (ms : List Mounted) → AreClaimed s component ms
    → AreClaimed s component (map (read n) ms)
read_claims s component n [] claims = tt
read_claims s component n (m ∷ ms) claims = (claims.0, read_claims s (component + 1) n ms claims.1)

module _ (s : State) (w : Wired) (is : IsHardwareOf s w) where
  -- the interfaces are those of before
  read_interfaces : map (λ (v : InterfaceValue). v.interface) (values_read s)
      ≡ map (λ (v : InterfaceValue). v.interface) s.values
  read_interfaces =
      interfaces_stay (read_of (component_is read_succeeds s) s.bodies)
      (read_keeps (component_is read_succeeds s) s.bodies) s.values

  pub in_cycle : IsInCycle s (values_read s) (after_reads_in s.ended w)
  in_cycle =
      let n = s.ended in
      let ms = w.components in
      record {
        wired = record {
          components = is.wired.components ∙ sym (read_leaves (λ (h : Hardware). h.description) n ms);
          lives = is.wired.lives ∙ sym (read_leaves (λ (h : Hardware). h.life) n ms);
          bodies = is.wired.bodies ∙ sym (read_bodies n ms);
          joints = all_of_each (λ (m : Mounted). length m.hardware.bodies ≡ length m.hardware.description.joints)
              (λ (m : Mounted). length m.hardware.bodies ≡ length m.hardware.description.joints) (read n)
              (λ m same. same) ms is.wired.joints;
          interfaces = read_interfaces ∙ is.wired.interfaces;
        };
        loans = rw is.loans (reads_are (owner s) (available s) s ms is.wired);
        places = is.places;
        claims = claimed_alike s (record s { values = values_read s }) 0 (map (read n) ms) (λ i. refl)
            (sym read_interfaces) (read_claims s 0 n ms is.claims);
        reads = all_of_each IsAtRest (IsRead n) (read n)
            (λ (m : Mounted) (rest : IsAtRest m). record { failed = refl; written = rest.written }) ms is.rest;
        empty = all_of_each (IsEmpty s.lives (active s)) (IsEmpty s.lives (active s))
            (read_of (component_is read_succeeds s) s.bodies)
            (λ (v : InterfaceValue) (empty : IsEmpty s.lives (active s) v).
            unread s.lives (active s) (component_is read_succeeds s) s.bodies v
            (reads_run n s.description.components s.lives) empty)
            s.values is.empty;
      }

-- The reads of the hardware are those of a cycle of the state.
pub read_in_cycle : (s : State) (w : Wired) (failed : List FailedPart) → IsHardwareOf s w
    → ReadInCycle s (after_reads_in s.ended w) failed (failed ++ failed_reads s.ended 0 w.components)
read_in_cycle s w failed is = record {
  hardware = in_cycle s w is;
  failed = ap (λ (l : List FailedPart). failed ++ l) (reads_told s w.components is.wired);
}

-- ---- The end

-- components that were read in the cycle are as if they were read again
read_again : (n : ℕ) (ms : List Mounted) → AllByRecursion (IsRead n) ms → map (read n) ms ≡ ms
read_again n [] reads = refl
read_again n (m ∷ ms) reads =
    ap₂ (λ (x : Mounted) (xs : List Mounted). x ∷ xs) (ap (λ (b : Bool). record m { failed = b }) (sym reads.0.failed))
    (read_again n ms reads.1)

-- what is known of each before the writes
fit_from : (s : State) (component n : ℕ) (ms : List Mounted) → AllByRecursion (IsRead n) ms → AreClaimed s component ms
    → AllByRecursion (λ (m : Mounted). length m.hardware.bodies ≡ length m.hardware.description.joints) ms
    → AllByRecursion IsFit ms
fit_from s component n [] reads claims joints = tt
fit_from s component n (m ∷ ms) reads claims joints =
    let c = m.hardware.description in
    let count : length m.hardware.claimed ≡ length c.joints =
    ap length claims.0
    ∙ length-map (range_with_len 0 (length c.joints))
    (claim_on (command_interfaces c) (claims_in s (commands_at component s.values)))
    ∙ length-range_with_len 0 (length c.joints) in (
      record { written = reads.0.written; claimed = count; joints = joints.0 },
      fit_from s (component + 1) n ms reads.1 claims.1 joints.1,
    )

-- the state after the end, when the components that failed have moved, with the controllers of before, and with these
-- that are to stand in
abbrev next : State → List (List ℕ) → List InterfaceValue → State
next s fallbacks values =
    moved (record s {
      values = values;
      bodies = components_stepped s values 0 s.description.components s.bodies;
      fallbacks = fallbacks;
      ended = s.ended + 1;
      aloft = false;
      mails = [];
    }) (lives_after s)

module _ (s : State) (fallbacks : List (List ℕ)) (values : List InterfaceValue) (w : Wired) (is : IsInCycle s values w)
    (sound : AreSound w.loans) where
  abbrev now : State
  now = record s { values = values }

  abbrev n : ℕ
  n = s.ended

  abbrev dt_us : ℕ
  dt_us = period s.description

  abbrev at : ℕ
  at = all_states w.components

  abbrev stepped : List BodyState
  stepped = components_stepped s values 0 s.description.components s.bodies

  -- the components when they ran
  abbrev ran_all : List Mounted
  ran_all = ran n dt_us at w.loans w.components

  run_is : components_run n dt_us w ≡ ran_all
  run_is = ap (λ (ms : List Mounted). map (stepped_on dt_us) (all_written n at w.loans ms))
      (sym (read_again n w.components is.reads))

  fit : AllByRecursion IsFit w.components
  fit = fit_from now 0 n w.components is.reads is.claims is.wired.joints

  -- the lifecycle states after it
  lives_same : lives_after s ≡ lives_then n w.components
  lives_same = rw (is.wired.components, is.wired.lives) refl

  -- which interfaces stay available
  fate : (c : ℕ) → Fate (has_left ran_all (Some c)) (running s.lives c) (running (lives_after s) c)
  fate c = rw (lives_same, is.wired.lives) (fates n dt_us at w.loans w.components c)

  still_there : (c : ℕ) → running (lives_after s) c ≡ true → running s.lives c ≡ true
  still_there c here =
      was_there (has_left ran_all (Some c)) (running s.lives c) (running (lives_after s) c) (fate c) here

  -- each place changes as its interface does
  all_move : (vs : List InterfaceValue) → AllByRecursion (IsEmpty s.lives (active s)) vs
      → AllByRecursion (λ (v : InterfaceValue). IsFreeUnlessThere (owner s) s.lives (active s) v.interface) vs
      → AllByRecursion (Moves (owner s) (active s) (has_left ran_all) s.lives (lives_after s) stepped) vs
  all_move [] empty free = tt
  all_move (v ∷ vs) empty free = (
    moves (owner s) (active s) (has_left ran_all) s.lives (lives_after s) stepped v refl fate empty.0 free.0,
    all_move vs empty.1 free.1,
  )

  -- the values after it, one by one
  abbrev then : InterfaceValue → InterfaceValue
  then = moved_of s.lives (lives_after s) stepped

  values_are : (next s fallbacks values).values ≡ map then values
  values_are = map-map (read_of _ stepped) _ values

  -- the components of the places
  places_are : w.places ≡ map component_at values
  places_are =
      is.places ∙ ap (map (λ (i : Interface). component_of i.whose)) (sym is.wired.interfaces)
      ∙ map-map (λ (i : Interface). component_of i.whose) (λ (v : InterfaceValue). v.interface) values

  free : AllByRecursion (λ (v : InterfaceValue). IsFreeUnlessThere (owner s) s.lives (active s) v.interface) values
  free = frees (owner s) s.lives (active s) values (rw (sym is.loans) sound)

  -- the board after it
  loans_are : (after_run n dt_us w).loans
      ≡ map (loan_of (holder (next s fallbacks values)) (available (next s fallbacks values)))
      (next s fallbacks values).values
  loans_are =
      ap (λ (ms : List Mounted). changed_where (has_left ms) vacated 0 w.places w.loans) run_is
      ∙ ap₂ (λ (places : List (Option ℕ)) (board : List Loan). changed_where (has_left ran_all) vacated 0 places board)
      places_are is.loans
      ∙ places_change (owner s) (holder (next s fallbacks values)) (available s) (available (next s fallbacks values))
      (has_left ran_all) vacated then [] values (all_move values is.empty free)
      ∙ ap (map (loan_of (holder (next s fallbacks values)) (available (next s fallbacks values)))) (sym values_are)

  -- all bodies after their steps
  pub all_step : all_bodies (components_run n dt_us w) ≡ stepped
  all_step =
      ap all_bodies run_is
      ∙ bodies_step s values n at 0 w.loans w.components (agrees_in is_written now w.components is.wired) fit is.claims
      (rw is.loans
      (held_all (owner s) (available s) s.description values w.components is.wired.components is.wired.interfaces))
      ∙ ap₂ (λ (cs : List CompDesc) (bodies : List BodyState). components_stepped s values 0 cs bodies)
      (sym is.wired.components) (sym is.wired.bodies)

  stays : map (λ (v : InterfaceValue). v.interface) (next s fallbacks values).values
      ≡ map (λ (v : InterfaceValue). v.interface) values
  stays = rw values_are (interfaces_stay then (moved_keeps s.lives (lives_after s) stepped) values)

  pub lent_next : IsLent (next s fallbacks values) (after_run n dt_us w)
  lent_next =
      let ms = w.components in
      record {
        wired = record {
          components =
              is.wired.components ∙ sym (descriptions_stay n dt_us at w.loans ms)
              ∙ ap (λ (l : List Mounted). map (λ (m : Mounted). m.hardware.description) (map after_failure l))
              (sym run_is);
          lives = lives_same ∙ sym (lives_are n dt_us at w.loans ms)
              ∙ ap (λ (l : List Mounted). map (λ (m : Mounted). m.hardware.life) (map after_failure l)) (sym run_is);
          bodies = sym (bodies_stay (components_run n dt_us w) ∙ all_step);
          joints = rw run_is (joints_stay n dt_us at w.loans ms fit);
          interfaces = stays ∙ is.wired.interfaces;
        };
        loans = loans_are;
        places = is.places;
        rest = at_rest dt_us (all_written n at w.loans ms);
        empty = rw values_are
            (all_of_each (IsEmpty s.lives (active s)) (IsEmpty (lives_after s) (active s)) then
            (λ (v : InterfaceValue) (empty : IsEmpty s.lives (active s) v). empties (active s) s.lives (lives_after s)
            stepped v still_there empty)
            values is.empty);
      }

  pub claimed_next : AreClaimed now 0 (after_run n dt_us w).components
  claimed_next = rw run_is (claims_stay now 0 n dt_us at w.loans w.components is.claims)

  pub writes_next : failed_writes n 0 w.components ≡ failed_writes n 0 (map (read n) w.components)
  writes_next = ap (failed_writes n 0) (sym (read_again n w.components is.reads))

-- What the end of a cycle of the hardware leaves and tells is what that of a cycle of the state does.
pub finished : (s : State) (w : Wired) (failed : List FailedPart) (bodies : List BodyState)
    → IsInCycle s (values_updated s) w → AreSound w.loans
    → FinishedCycle s (after_run s.ended (period s.description) w) failed
    (failed ++ failed_writes s.ended 0 w.components) bodies
    (bodies ++ all_bodies (components_run s.ended (period s.description) w))
unfolding cycle
finished s w failed bodies is sound =
    let u = updates s (values_read s) in
    let owned : (i : Interface)
    → owner (record s { loaded = u.loaded }) i ≡ owner s i = updates_keep_owners s (values_read s) in
    let fallbacks = (landed s (cycle s)).fallbacks in
    let after = after_run s.ended (period s.description) w in
    record {
      hardware = record {
        lent = lent_alike (next s fallbacks u.values) u.loaded after owned (updates_leave_active s (values_read s))
            (lent_next s fallbacks u.values w is sound);
        claims = claimed_alike (record s { values = u.values }) (landed s (cycle s)) 0 after.components
            (λ i. sym (owned i)) (sym (stays s fallbacks u.values w is sound))
            (claimed_next s fallbacks u.values w is sound);
      };
      failed = ap (λ (l : List FailedPart). failed ++ l)
          (writes_next s fallbacks u.values w is sound
          ∙ writes_told (record s { values = u.values }) w.components is.wired);
      bodies = ap (λ (l : List BodyState). bodies ++ l) (all_step s fallbacks u.values w is sound);
    }

-- ---- Both, while no controller is active

pub ran_cycle : (s : State) (w after : Wired) (f f' f'' : List FailedPart) (b b' : List BodyState) → IsStill s
    → ReadInCycle s w f f' → (IsInCycle s (values_updated s) w → FinishedCycle s after f' f'' b b')
    → RanCycle s after f f'' b b'
ran_cycle s w after f f' f'' b b' still reads ends =
    let values : values_read s ≡ values_updated s =
    sym (ap (λ (u : Updates). u.values) (idle_updates s still (values_read s))) in
    let end = ends (subst (λ (vs : List InterfaceValue). IsInCycle s vs w) values reads.hardware) in
    let moved : IsMoved (landed s (idle s still)) after =
    subst (λ (c : CycleResult). IsMoved (landed s c) after) (idle_cycle s still) end.hardware in
    record {
      hardware = subst (λ (t : State). IsHardwareOf t after) (sym (idle_ended s still))
          (moved_is_held (landed s (idle s still)) after
          (all_of (λ (v : InterfaceValue). available (landed s (idle s still)) v.interface ≡ false
          → owner (landed s (idle s still)) v.interface ≡ None)
          (λ (v : InterfaceValue) (gone : available (landed s (idle s still)) v.interface ≡ false). no_owner
          (landed s (idle s still)) v.interface still) (landed s (idle s still)).values) moved);
      failed = end.failed ∙ ap (λ (l : List FailedPart). l ++ writes_failed_in s) reads.failed
          ∙ append_assoc f (reads_failed_in s) (writes_failed_in s);
      bodies = end.bodies
          ∙ ap (λ (l : List BodyState). b ++ l)
          (ap (λ (c : CycleResult). c.happened.bodies) (idle_cycle s still)
          ∙ sym (ap (λ (c : CycleResult). c.bodies) (idle_cycle s still)));
    }
