-- The hardware of a state, after the move of a component, is that of the state when the component moved.
use Rattle.std.proofs.Common.{◌≡◌, ℕ, ◌+◌, ◌<◌, Bool, true, false, List, [], ◌∷◌, ◌++◌, map, length, take}
use Rattle.std.proofs.Common.{Option, Some, None, Result, refl, sym, ap, ap₂, ◌∙◌, arith, ◌⊎◌, inl, inr}
use Rattle.std.specs.Prelude.{◌==◌, not, ◌&&◌, slice_set, slice_index_or, if◌then◌else◌}
use Rattle.std.specs.List.{AllByRecursion}
use Rattle.std.proofs.lemmas.List.{length-map, map-id}
use Rattle.std.proofs.lemmas.Simd.{map-map}
use mathlib.Core.Path.{fun_ext}
use Rattle.fixed_num.specs.declared.value.Value.{Value}
use Rattle.fixed_num.specs.declared.value.Value.TheVariants.{Unset}
use Rattle.cm_document.specs.Places.{Called, Whose, of_joint, of_controller}
use Rattle.cm_document.specs.Places.{Interface, a_state, a_command, at_controllers}
use Rattle.cm_document.specs.declared.life.Life.{Life}
use Rattle.cm_document.specs.declared.life.Life.TheVariants.{Unconfigured}
use Rattle.cm_model.specs.Boundary.{life_at}
use Rattle.cm_model.specs.Components.{is_available, has_move}
use Rattle.cm_model.specs.Cycle.{moved}
use Rattle.cm_model.specs.State.{State, owner, available, available_in, active}
use Rattle.cm_model.specs.Values.{InterfaceValue, running, read_of, cleared_of, after_reads}
use Rattle.loan_board.specs.declared.board.Loan.{Loan}
use Rattle.loan_board.specs.Loans.{made_available}
use Rattle.cm_hardware.specs.Holding.{IsHardwareOf, holder, IsMoved, MovesComponent}
use Rattle.cm_hardware.specs.Wiring.{Mounted, Wired, IsWired, AreSound, loan_of, component_of, vacated}
use Rattle.cm_hardware.specs.Wiring.{all_states, with_values, life_in, moved_at, is_of, measured_in}
use Rattle.cm_hardware.specs.Wiring.{measured_of, changed_where, settled, move_answer, after_move_at}
use Rattle.hw_component.specs.declared.faults.HwFault.{HwFault}
use Rattle.cm_hardware.proofs.HeldLemmas.{claimed_alike}
use Rattle.cm_hardware.proofs.MoveLemmas.{IsEmpty, IsFreeUnlessThere, component_at, after_change}
use Rattle.cm_hardware.proofs.MoveLemmas.{moved_of, Moves, places_change, moves, empties, frees}
use Rattle.cm_hardware.proofs.MoveLemmas.{was_there, unread, moved_keeps, interfaces_stay, all_of_each}
use Rattle.cm_hardware.proofs.StartLemmas.{unfailing, never_failing, measured_is_read, same_at_components}
use Rattle.cm_hardware.proofs.StateLemmas.{reads_are}
use Rattle.cm_hardware.proofs.StepLemmas.{Fate}
use Rattle.cm_hardware.proofs.MovingLemmas.{Settles, alone, alone_joints, alone_keeps, alone_measured, alone_read}
use Rattle.cm_hardware.proofs.MovingLemmas.{down, flat_mapped, life_is, life_then, moved_bodies, moved_claims}
use Rattle.cm_hardware.proofs.MovingLemmas.{moved_descriptions, moved_joints, moved_lives, moved_rest, settles}

module _ (s : State) (ms : List Mounted) (wired : IsWired s ms) (place : ℕ) (within : place < length ms) where
  -- a state in which it alone is read, and no read fails
  abbrev reading : State
  reading = record s {
    description = record s.description { components = map unfailing s.description.components };
    lives = map (λ (m : Mounted). m.hardware.life) (alone place ms);
    ended = 0;
  }

  reading_wired : IsWired reading (map never_failing (alone place ms))
  reading_wired = record {
    components =
        ap (map unfailing)
        (wired.components ∙ sym (alone_keeps (λ (m : Mounted). m.hardware.description) (λ m life. refl) place ms))
        ∙ map-map unfailing (λ (m : Mounted). m.hardware.description) (alone place ms)
        ∙ sym (map-map (λ (m : Mounted). m.hardware.description) never_failing (alone place ms));
    lives = sym (map-map (λ (m : Mounted). m.hardware.life) never_failing (alone place ms));
    bodies = wired.bodies
        ∙ flat_mapped (λ (m : Mounted). m.hardware.bodies) ms (map never_failing (alone place ms))
        (sym (map-map (λ (m : Mounted). m.hardware.bodies) never_failing (alone place ms)
        ∙ alone_keeps (λ (m : Mounted). m.hardware.bodies) (λ m life. refl) place ms));
    joints = alone_joints place ms wired.joints;
    interfaces =
        wired.interfaces
        ∙ sym (ap₂ (λ (states commands : List Interface). states
        ++ (commands ++ at_controllers 0 s.description.controllers))
        (same_at_components a_state (λ j. j.states) 0 0 s.description.components)
        (same_at_components a_command (λ j. j.commands) 0 0 s.description.components));
  }

  -- what it measures is what its interfaces hold then
  pub measured_is : (own : Interface → Option ℕ) (there : Interface → Bool)
      → measured_of place ms (map (loan_of own there) s.values)
      ≡ map (loan_of own there) (after_reads (λ c. c == place) s.bodies s.values)
  measured_is own there =
      let first : 0 + all_states (take place ms) ≡ all_states (take place ms) = omega arith in
      ap (λ (k : ℕ). with_values (map (loan_of own there) s.values) k (measured_in place ms)) (sym first)
      ∙ sym (alone_measured place 0 (map (loan_of own there) s.values) ms)
      ∙ measured_is_read 0 (map (loan_of own there) s.values) (alone place ms)
      ∙ reads_are own there reading (map never_failing (alone place ms)) reading_wired
      ∙ ap (λ (test : ℕ → Bool). map (loan_of own there) (after_reads test s.bodies s.values))
      (fun_ext (λ c. rw wired.components (alone_read place ms c within)))

-- ---- The board

-- no place changes where none passes the test
nowhere : (change : Loan → Loan) (at : ℕ) (places : List (Option ℕ)) (loans : List Loan)
    → changed_where (λ (o : Option ℕ). false) change at places loans ≡ loans
nowhere change at [] loans = refl
nowhere change at (c ∷ places) loans = nowhere change (at + 1) places loans

-- what the move makes of one interface that comes to be available
module _ (own : Interface → Option ℕ) (controllers : ℕ → Bool) (place : ℕ) (before after : List Life) where
  abbrev there : List Life → Interface → Bool
  there lives i = available_in lives controllers i.whose

  abbrev has : List Life → Interface → Option ℕ
  has lives i = if available_in lives controllers i.whose then own i else None

  abbrev pub Opens : InterfaceValue → Type 0
  Opens v = after_change (is_of place) (made_available true) (component_at v) (loan_of own (there before) v)
      ≡ loan_of (has after) (there after) v

  -- the components that come to be available
  abbrev pub Comes : ℕ → Type 0
  Comes c = (((c == place) ≡ true) × (running after c ≡ true))
      ⊎ (((c == place) ≡ false) × (running after c ≡ running before c))

  abbrev kept : Called → Value → Option ℕ → Bool → Loan
  kept called value owner there =
      record { value = value; owner = owner; is_command = called.is_command; is_available = there }

  has_case : (here : Bool) (o : Option ℕ) → (here ≡ false → o ≡ None) → o ≡ (if here then o else None)
  has_case true o free = refl
  has_case false o free = free refl

  opens_part : (called : Called) (whose : Whose) (value : Value) → ((c : ℕ) → Comes c)
      → IsFreeUnlessThere own before controllers (record { called = called; whose = whose })
      → Opens (record { interface = record { called = called; whose = whose }; value = value })
  opens_part called (of_controller p) value comes free =
      ap (λ (o : Option ℕ). kept called value o (controllers p))
      (has_case (controllers p) (own (record { called = called; whose = of_controller p })) free)
  opens_part called (of_joint c j) value comes free = elim (comes c) [
    | inl (here, up) ↦
        ap (λ (b : Bool). if b
        then made_available true
        (kept called value (own (record { called = called; whose = of_joint c j })) (running before c))
        else kept called value (own (record { called = called; whose = of_joint c j })) (running before c)) here
        ∙ ap (λ (b : Bool). kept called value
        (if b then own (record { called = called; whose = of_joint c j }) else None) b) (sym up)
    | inr (other, same) ↦
        ap (λ (b : Bool). if b
        then made_available true
        (kept called value (own (record { called = called; whose = of_joint c j })) (running before c))
        else kept called value (own (record { called = called; whose = of_joint c j })) (running before c)) other
        ∙ ap (λ (o : Option ℕ). kept called value o (running before c))
        (has_case (running before c) (own (record { called = called; whose = of_joint c j })) free)
        ∙ ap (λ (b : Bool). kept called value
        (if b then own (record { called = called; whose = of_joint c j }) else None) b) (sym same)
  ]

  pub opens : (v : InterfaceValue) → ((c : ℕ) → Comes c) → IsFreeUnlessThere own before controllers v.interface
      → Opens v
  opens v comes free = opens_part v.interface.called v.interface.whose v.value comes free

  -- what holds nothing has nothing to lose
  abbrev of_parts : Called → Whose → Value → InterfaceValue
  of_parts called whose value = record { interface = record { called = called; whose = whose }; value = value }

  not_cleared_joint : (called : Called) (c j : ℕ) (value : Value) (here : Bool) → running after c ≡ here
      → (here ≡ false → value ≡ Unset)
      → cleared_of (λ c. not (running after c)) (of_parts called (of_joint c j) value)
      ≡ of_parts called (of_joint c j) value
  not_cleared_joint called c j value true is nothing = rw is refl
  not_cleared_joint called c j value false is nothing = rw is (ap (of_parts called (of_joint c j)) (sym (nothing refl)))

  not_cleared_part : (called : Called) (whose : Whose) (value : Value)
      → ((c : ℕ) → running after c ≡ false → running before c ≡ false)
      → IsEmpty before controllers (of_parts called whose value)
      → cleared_of (λ c. not (running after c)) (of_parts called whose value) ≡ of_parts called whose value
  not_cleared_part called (of_controller p) value gone empty = refl
  not_cleared_part called (of_joint c j) value gone empty =
      not_cleared_joint called c j value (running after c) refl (λ (off : running after c ≡ false). empty (gone c off))

  pub not_cleared : (vs : List InterfaceValue) → ((c : ℕ) → running after c ≡ false → running before c ≡ false)
      → AllByRecursion (IsEmpty before controllers) vs
      → map (cleared_of (λ c. not (running after c))) vs ≡ vs
  not_cleared [] gone empty = refl
  not_cleared (v ∷ vs) gone empty =
      ap₂ (λ (x : InterfaceValue) (xs : List InterfaceValue). x ∷ xs)
      (not_cleared_part v.interface.called v.interface.whose v.value gone empty.0) (not_cleared vs gone empty.1)

-- ---- All of it

module _ (s : State) (w : Wired) (place : ℕ) (target : Life) (is : IsHardwareOf s w) (sound : AreSound w.loans)
    (within : place < length w.components)
    (can : has_move (life_in place w.components) target ≡ true) where
  abbrev ms : List Mounted
  ms = w.components

  -- the lifecycle states then, the components, and the state
  abbrev lives : List Life
  lives = slice_set s.lives place target

  abbrev units : List Mounted
  units = moved_at place target ms

  abbrev then_state : State
  then_state = moved s lives

  -- what the move makes of an interface
  abbrev next : InterfaceValue → InterfaceValue
  next = moved_of s.lives lives s.bodies

  values_are : then_state.values ≡ map next s.values
  values_are = map-map (read_of _ s.bodies) _ s.values

  lives_are : lives ≡ map (λ (m : Mounted). m.hardware.life) units
  lives_are = ap (λ (ls : List Life). slice_set ls place target) is.wired.lives ∙ moved_lives place target ms can

  -- whether each is available then
  settle : (c : ℕ) → Settles s.lives place target c
  settle c = settles s.lives place target c
      (rw is.wired.lives (rw (length-map ms (λ (m : Mounted). m.hardware.life)) within))

  was : is_available (slice_index_or s.lives place Unconfigured) ≡ is_available (life_in place ms)
  was = ap is_available
      (ap (λ (ls : List Life). slice_index_or ls place Unconfigured) is.wired.lives ∙ life_is place ms)

  is_then : is_available (life_in place units) ≡ is_available target
  is_then = ap is_available (life_then place target ms within can)

  free : AllByRecursion (λ (v : InterfaceValue). IsFreeUnlessThere (owner s) s.lives (active s) v.interface) s.values
  free = frees (owner s) s.lives (active s) s.values (rw (sym is.loans) sound)

  places_are : w.places ≡ map component_at s.values
  places_are =
      is.places ∙ ap (map (λ (i : Interface). component_of i.whose)) (sym is.wired.interfaces)
      ∙ map-map (λ (i : Interface). component_of i.whose) (λ (v : InterfaceValue). v.interface) s.values

  stays : map (λ (v : InterfaceValue). v.interface) then_state.values
      ≡ map (λ (v : InterfaceValue). v.interface) s.values
  stays = rw values_are (interfaces_stay next (moved_keeps s.lives lives s.bodies) s.values)

  -- each place changes as its interface does, where components leave that pass the test
  all_move : (test : Option ℕ → Bool) → test None ≡ false
      → ((c : ℕ) → Fate (test (Some c)) (running s.lives c) (running lives c)) → (vs : List InterfaceValue)
      → AllByRecursion (IsEmpty s.lives (active s)) vs
      → AllByRecursion (λ (v : InterfaceValue). IsFreeUnlessThere (owner s) s.lives (active s) v.interface) vs
      → AllByRecursion (Moves (owner s) (active s) test s.lives lives s.bodies) vs
  all_move test none fate [] empty owned = tt
  all_move test none fate (v ∷ vs) empty owned = (
    moves (owner s) (active s) test s.lives lives s.bodies v none fate empty.0 owned.0,
    all_move test none fate vs empty.1 owned.1,
  )

  -- what is lent then, and that what is not available is empty
  abbrev Fits : List Loan → Type 0
  Fits loans =
      (loans ≡ map (loan_of (holder then_state) (available then_state)) then_state.values)
      × AllByRecursion (IsEmpty lives (active s)) then_state.values

  -- where components leave that pass the test, and none comes
  leaves_so : (test : Option ℕ → Bool) → test None ≡ false
      → ((c : ℕ) → Fate (test (Some c)) (running s.lives c) (running lives c))
      → Fits (changed_where test vacated 0 w.places w.loans)
  leaves_so test none fate = (
    ap₂ (λ (places : List (Option ℕ)) (board : List Loan). changed_where test vacated 0 places board) places_are
        is.loans
        ∙ places_change (owner s) (holder then_state) (available s) (available then_state) test vacated next [] s.values
        (all_move test none fate s.values is.empty free)
        ∙ ap (map (loan_of (holder then_state) (available then_state))) (sym values_are),
    rw values_are
        (all_of_each (IsEmpty s.lives (active s)) (IsEmpty lives (active s)) next
        (λ (v : InterfaceValue) (empty : IsEmpty s.lives (active s) v). empties (active s) s.lives lives s.bodies v
        (λ c here. was_there (test (Some c)) (running s.lives c) (running lives c) (fate c) here) empty)
        s.values is.empty),
  )

  -- it comes, and none leaves
  come : is_available target ≡ true → (c : ℕ) → Comes (owner s) (active s) place s.lives lives c
  come up c = elim (settle c)
      [ inl (here, then_and_was) ↦ inl (here, then_and_was.0 ∙ up) | inr (other, same) ↦ inr (other, same) ]

  all_open : ((c : ℕ) → Comes (owner s) (active s) place s.lives lives c) → (vs : List InterfaceValue)
      → AllByRecursion (λ (v : InterfaceValue). IsFreeUnlessThere (owner s) s.lives (active s) v.interface) vs
      → AllByRecursion (Opens (owner s) (active s) place s.lives lives) vs
  all_open comes [] owned = tt
  all_open comes (v ∷ vs) owned =
      (opens (owner s) (active s) place s.lives lives v comes owned.0, all_open comes vs owned.1)

  -- those that are read are it alone, where it was not available before
  reads_it : is_available target ≡ true → is_available (life_in place ms) ≡ false → (c : ℕ)
      → (running lives c && not (running s.lives c)) ≡ (c == place)
  reads_it up gone c = elim (settle c) [
    | inl (here, then_and_was) ↦ ap₂ (λ (a b : Bool). a && not b) (then_and_was.0 ∙ up) (then_and_was.1 ∙ was ∙ gone)
        ∙ sym here
    | inr (other, same) ↦ ap (λ (a : Bool). a && not (running s.lives c)) same ∙ both (running s.lives c) ∙ sym other
  ]
    where
      both : (a : Bool) → (a && not a) ≡ false
      both true = refl
      both false = refl

  gone_before : is_available target ≡ true → (c : ℕ) → running lives c ≡ false → running s.lives c ≡ false
  gone_before up c gone = elim (settle c) [
    | inl (here, then_and_was) ↦ let bad : true ≡ false = sym (then_and_was.0 ∙ up) ∙ gone in cc
    | inr (other, same) ↦ sym same ∙ gone
  ]

  comes_so : is_available target ≡ true → is_available (life_in place ms) ≡ false
      → Fits (measured_of place units (changed_where (is_of place) (made_available true) 0 w.places w.loans))
  comes_so up gone =
      let test : ℕ → Bool = λ c. running lives c && not (running s.lives c) in
      let it : test ≡ (λ c. c == place) = fun_ext (reads_it up gone) in
      let opened : changed_where (is_of place) (made_available true) 0 w.places w.loans
      ≡ map (loan_of (holder then_state) (available then_state)) s.values =
      ap₂ (λ (places : List (Option ℕ)) (board : List Loan). changed_where (is_of place) (made_available true) 0 places
      board) places_are is.loans
      ∙ places_change (owner s) (holder then_state) (available s) (available then_state) (is_of place)
      (made_available true) (λ v. v) [] s.values (all_open (come up) s.values free)
      ∙ ap (map (loan_of (holder then_state) (available then_state))) (map-id s.values) in
      let kept : map (cleared_of (λ c. not (running lives c))) s.values ≡ s.values =
      not_cleared (owner s) (active s) place s.lives lives s.values (gone_before up) is.empty in
      let values : then_state.values ≡ after_reads (λ c. c == place) s.bodies s.values =
      ap (map (read_of test s.bodies)) kept ∙ ap (λ (t : ℕ → Bool). after_reads t s.bodies s.values) it in
      let after : IsWired (record s { lives = lives }) units = record {
        components = is.wired.components ∙ sym (moved_descriptions place target ms);
        lives = lives_are;
        bodies = is.wired.bodies ∙ sym (moved_bodies place target ms);
        joints = moved_joints place target ms is.wired.joints;
        interfaces = is.wired.interfaces;
      } in
      let long : place < length units =
      rw (sym (length-map units (λ (m : Mounted). m.hardware.description))
      ∙ ap length (moved_descriptions place target ms) ∙ length-map ms (λ (m : Mounted). m.hardware.description))
      within in (
        ap (measured_of place units) opened
            ∙ measured_is (record s { lives = lives }) units after place long (holder then_state) (available then_state)
            ∙ ap (map (loan_of (holder then_state) (available then_state))) (sym values),
        rw values (all_of_each (IsEmpty s.lives (active s)) (IsEmpty lives (active s))
            (read_of (λ c. c == place) s.bodies)
            (λ (v : InterfaceValue) (empty : IsEmpty s.lives (active s) v).
            unread lives (active s) (λ c. c == place) s.bodies v (λ c here. elim (settle c) [
              | inl (here', then_and_was) ↦ then_and_was.0 ∙ up
              | inr (other, same) ↦ let bad : true ≡ false = sym here ∙ other in cc
            ]) (emptied v empty))
            s.values is.empty),
      )
    where
      emptied : (v : InterfaceValue) → IsEmpty s.lives (active s) v → IsEmpty lives (active s) v
      emptied v empty = by_whose v.interface.whose refl
        where
          by_whose : (whose : Whose) → v.interface.whose ≡ whose → IsEmpty lives (active s) v
          by_whose (of_joint c j) is_so = λ gone. empty (rw is_so (gone_before up c (rw is_so at gone)))
          by_whose (of_controller p) is_so = λ gone. empty (rw is_so (rw is_so at gone))

  -- it stays available
  same_so : is_available target ≡ true → is_available (life_in place ms) ≡ true → (c : ℕ)
      → Fate false (running s.lives c) (running lives c)
  same_so up had c = elim (settle c) [
    | inl (here, then_and_was) ↦ inr (refl, then_and_was.0 ∙ up ∙ sym (then_and_was.1 ∙ was ∙ had))
    | inr (other, same) ↦ inr (refl, same)
  ]

  -- or leaves
  leave_so : is_available target ≡ false → (c : ℕ) → Fate (is_of place (Some c)) (running s.lives c) (running lives c)
  leave_so down c =
      elim (settle c)
      [ inl (here, then_and_was) ↦ inl (here, then_and_was.0 ∙ down) | inr (other, same) ↦ inr (other, same) ]

  settled_case : (has had : Bool) → is_available target ≡ has → is_available (life_in place ms) ≡ had
      → Fits (settled place (is_available (life_in place ms)) units w.places w.loans)
  settled_case true true up had_is =
      let unchanged = leaves_so (λ o. false) refl (same_so up had_is) in
      rw (is_then ∙ up, had_is) (sym (nowhere vacated 0 w.places w.loans) ∙ unchanged.0, unchanged.1)
  settled_case true false up had_is = rw (is_then ∙ up, had_is) (comes_so up had_is)
  settled_case false had up had_is = rw (is_then ∙ up) (leaves_so (is_of place) refl (leave_so up))

  pub moved_so : IsMoved then_state (after_move_at place target w)
  moved_so =
      let fits = settled_case (is_available target) (is_available (life_in place ms)) refl refl in
      rw can (record {
        lent = record {
          wired = record {
            components = is.wired.components ∙ sym (moved_descriptions place target ms);
            lives = lives_are;
            bodies = is.wired.bodies ∙ sym (moved_bodies place target ms);
            joints = moved_joints place target ms is.wired.joints;
            interfaces = stays ∙ is.wired.interfaces;
          };
          loans = fits.0;
          places = is.places;
          rest = moved_rest place target ms is.rest;
          empty = fits.1;
        };
        claims = claimed_alike s then_state 0 units (λ i. refl) (sym stays)
            (moved_claims s 0 place target ms is.claims);
      })

-- ---- The call

-- So a call moves the component, or refuses.
pub moves_component : (s : State) (w after : Wired) (place : ℕ) (target : Life) (result : Result (Unit {0}) HwFault)
    → IsHardwareOf s w → AreSound w.loans → place < length w.components
    → result ≡ move_answer place target w.components → after ≡ after_move_at place target w
    → MovesComponent s place target w after result
moves_component s w after place target result is sound within answer same =
    by_move (has_move (life_in place w.components) target) refl
  where
    told : life_at s place ≡ life_in place w.components
    told = ap (λ (ls : List Life). slice_index_or ls place Unconfigured) is.wired.lives ∙ life_is place w.components

    by_move : (can : Bool) → has_move (life_in place w.components) target ≡ can
        → MovesComponent s place target w after result
    by_move true can =
        let moved = moved_so s w place target is sound within can in
        rw (answer, can) (rw told can, rw same moved)
    by_move false can = rw (answer, can) ((rw told can, refl), rw (same, can) refl)
