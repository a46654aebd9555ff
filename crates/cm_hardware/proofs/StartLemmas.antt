-- The hardware that is made of a description is that of the manager at boot.
use Rattle.std.proofs.Common.{◌≡◌, ℕ, zero, suc, ◌+◌, ◌-◌, ◌<◌, ◌≤◌, ◌^◌, Bool, true, false, List}
use Rattle.std.proofs.Common.{[], ◌∷◌, ◌++◌, length, map, replicate, take, drop, Option, Some, None}
use Rattle.std.proofs.Common.{refl, sym, ap, ap₂, ◌∙◌, arith, append_assoc, length-append}
use Rattle.std.specs.Prelude.{◌&&◌, zip, flat_map, slice_get, if◌then◌else◌}
use Rattle.std.specs.List.{All, AllByRecursion}
use Rattle.std.specs.Option.{option_map_or}
use Rattle.std.proofs.lemmas.List.{map-append, length-map, length-replicate, replicate-append-replicate}
use Rattle.std.proofs.lemmas.List.{take_all, drop_all, append-nil, map-id}
use Rattle.std.proofs.lemmas.List.Elements.{recursion_from_All}
use Rattle.std.proofs.lemmas.Simd.{map-map}
use Rattle.loan_board.proofs.BoardLemmas.{free-IsSound}
use mathlib.Core.Path.{fun_ext}
use Rattle.fixed_num.specs.declared.value.BodyState.{BodyState}
use Rattle.fixed_num.specs.declared.value.Value.TheVariants.{Unset}
use Rattle.iface_names.specs.declared.interface.IfaceName.{IfaceName}
use Rattle.iface_names.specs.declared.interface.IfaceName.TheVariants.{Joint}
use Rattle.iface_names.specs.declared.kind.Kind.{Kind}
use Rattle.cm_document.specs.Links.{refs_of}
use Rattle.cm_document.specs.Places.{Called, Whose, of_joint, of_controller, Interface, a_state, a_command}
use Rattle.cm_document.specs.Places.{at_joint, at_joints, at_components, at_controllers, interfaces_of}
use Rattle.cm_document.specs.declared.description.CompDesc.{CompDesc}
use Rattle.cm_document.specs.declared.description.CtlDesc.{CtlDesc}
use Rattle.cm_document.specs.declared.description.Description.{Description}
use Rattle.cm_document.specs.declared.description.JointDesc.{JointDesc}
use Rattle.cm_document.specs.declared.life.Life.{Life}
use Rattle.cm_model.specs.Components.{is_available, read_succeeds, body_at_start, bodies_at_start}
use Rattle.cm_model.specs.Components.{measured_states, interfaces_from, claimed_by}
use Rattle.cm_model.specs.State.{State, boot, lives_at_start, all_bodies_at_start}
use Rattle.cm_model.specs.State.{values_at_start, owner, available, active}
use Rattle.cm_model.specs.Values.{InterfaceValue, unset, running, read_of, after_reads}
use Rattle.cm_model.specs.Blanks.{no_blanks}
use Rattle.cm_model.specs.declared.blanks.Blanks.{Blanks}
use Rattle.hw_component.specs.Hardware.{CanBeMade}
use Rattle.loan_board.specs.Loans.{idle_of, made_available}
use Rattle.loan_board.specs.declared.board.Loan.{Loan}
use Rattle.cm_hardware.specs.Holding.{IsHardwareOf, IsAtRest, IsEmptyUnlessAvailable}
use Rattle.cm_hardware.specs.Starting.{mounted, places_from, places_of, all_places, is_up}
use Rattle.cm_hardware.specs.Starting.{opened, after_measure_of, after_measures_of}
use Rattle.cm_hardware.specs.Wiring.{Mounted, Wired, loan_of, component_of, states_count}
use Rattle.cm_hardware.specs.Wiring.{commands_count, all_states, all_commands, with_values}
use Rattle.cm_hardware.specs.Wiring.{after_reads_of, IsWired, AreFew, AreFree, AreSound, IsManaged}
use Rattle.cm_hardware.proofs.StateLemmas.{reads_are}
use Rattle.cm_hardware.proofs.StillLemmas.{if_both, claimed_nothing}
use Rattle.cm_hardware.proofs.MoveLemmas.{places_each, unread, read_keeps, interfaces_stay, all_of_each}

-- ---- Lists

-- items that were lent and came back as they were
pub whole : {A : Type 0} (n : ℕ) (lent items : List A) → lent ≡ items → n ≡ length items
    → take n (lent ++ drop (length lent) items) ≡ items
whole n lent items same count =
    rw same (rw (drop_all (length items) items (omega arith), append-nil items)
    (take_all n items (omega (arith, count))))

-- ---- The component of each place

-- that of an interface
abbrev pub whose_at : Interface → Option ℕ
whose_at i = component_of i.whose

-- of a joint's
kinds_places : (call : IfaceName → Called) (component joint : ℕ) (name : List ℕ) (kinds : List Kind)
    → map whose_at (map (λ kind. record { called = call (Joint name kind); whose = of_joint component joint }) kinds)
    ≡ replicate (length kinds) (Some component)
kinds_places call component joint name [] = refl
kinds_places call component joint name (kind ∷ kinds) =
    ap (λ (l : List (Option ℕ)). Some component ∷ l) (kinds_places call component joint name kinds)

-- of joints'
joints_places : (call : IfaceName → Called) (kinds : JointDesc → List Kind) (component joint n : ℕ)
    (js : List JointDesc)
    → map whose_at (at_joints call kinds component joint js)
    ≡ replicate (length (interfaces_from kinds n js)) (Some component)
joints_places call kinds component joint n [] = refl
joints_places call kinds component joint n (j ∷ js) =
    let here = length (kinds j) in
    let others = length (interfaces_from kinds (n + 1) js) in
    let all : length (interfaces_from kinds n (j ∷ js)) ≡ here + others =
    length-append (map (λ kind. record { joint = n; kind = kind }) (kinds j)) (interfaces_from kinds (n + 1) js)
    ∙ ap (λ (k : ℕ). k + others) (length-map (kinds j) (λ kind. record { joint = n; kind = kind })) in
    map-append whose_at (at_joint call kinds component joint j) (at_joints call kinds component (joint + 1) js)
    ∙ ap₂ (λ (xs ys : List (Option ℕ)). xs ++ ys) (kinds_places call component joint j.name (kinds j))
    (joints_places call kinds component (joint + 1) (n + 1) js)
    ∙ replicate-append-replicate here others (Some component)
    ∙ ap (λ (k : ℕ). replicate k (Some component)) (sym all)

-- of components'
components_places : (call : IfaceName → Called) (kinds : JointDesc → List Kind) (count : Mounted → ℕ)
    → ((m : Mounted) → count m ≡ length (interfaces_from kinds 0 m.hardware.description.joints))
    → (component joint : ℕ) (cs : List CompDesc)
    → map whose_at (at_components call kinds component joint cs) ≡ places_from count component (map mounted cs)
components_places call kinds count counts component joint [] = refl
components_places call kinds count counts component joint (c ∷ cs) =
    map-append whose_at (at_joints call kinds component joint c.joints)
    (at_components call kinds (component + 1) (joint + length c.joints) cs)
    ∙ ap₂ (λ (xs ys : List (Option ℕ)). xs ++ ys)
    (joints_places call kinds component joint 0 c.joints
    ∙ ap (λ (k : ℕ). replicate k (Some component)) (sym (counts (mounted c))))
    (components_places call kinds count counts (component + 1) (joint + length c.joints) cs)

-- references are of none
references_places : (place : ℕ) (names : List IfaceName)
    → map whose_at (map (λ name. record { called = a_command name; whose = of_controller place }) names)
    ≡ replicate (length names) None
references_places place [] = refl
references_places place (name ∷ names) = ap (λ (l : List (Option ℕ)). None ∷ l) (references_places place names)

controllers_places : (place : ℕ) (cs : List CtlDesc)
    → map whose_at (at_controllers place cs) ≡ replicate (length (at_controllers place cs)) None
controllers_places place [] = refl
controllers_places place (c ∷ cs) =
    let own = map (λ name. record { called = a_command name; whose = of_controller place }) (refs_of c) in
    let others = at_controllers (place + 1) cs in
    map-append whose_at own others
    ∙ ap₂ (λ (xs ys : List (Option ℕ)). xs ++ ys)
    (references_places place (refs_of c)
    ∙ ap (λ (k : ℕ). replicate k None)
    (sym (length-map (refs_of c) (λ name. record { called = a_command name; whose = of_controller place }))))
    (controllers_places (place + 1) cs)
    ∙ replicate-append-replicate (length own) (length others) None
    ∙ ap (λ (k : ℕ). replicate k None) (sym (length-append own others))

-- the state interfaces of a description, its command interfaces and its references
abbrev states_in : Description → List Interface
states_in d = at_components a_state (λ j. j.states) 0 0 d.components

abbrev commands_in : Description → List Interface
commands_in d = at_components a_command (λ j. j.commands) 0 0 d.components

states_places : (d : Description) → map whose_at (states_in d) ≡ places_from states_count 0 (map mounted d.components)
states_places d = components_places a_state (λ j. j.states) states_count (λ m. refl) 0 0 d.components

commands_places : (d : Description)
    → map whose_at (commands_in d) ≡ places_from commands_count 0 (map mounted d.components)
commands_places d = components_places a_command (λ j. j.commands) commands_count (λ m. refl) 0 0 d.components

-- so of all
pub places_are : (d : Description)
    → all_places (map mounted d.components) (length (interfaces_of d)) ≡ map whose_at (interfaces_of d)
places_are d =
    let ms = map mounted d.components in
    let references = at_controllers 0 d.controllers in
    let first : places_of ms ≡ map whose_at (states_in d) ++ map whose_at (commands_in d) =
    sym (ap₂ (λ (xs ys : List (Option ℕ)). xs ++ ys) (states_places d) (commands_places d)) in
    let so_many : length (places_of ms) ≡ length (states_in d) + length (commands_in d) =
    ap length first ∙ length-append (map whose_at (states_in d)) (map whose_at (commands_in d))
    ∙ ap₂ (λ (m n : ℕ). m + n) (length-map (states_in d) whose_at) (length-map (commands_in d) whose_at) in
    let all : length (interfaces_of d) ≡ length (states_in d) + (length (commands_in d) + length references) =
    length-append (states_in d) (commands_in d ++ references)
    ∙ ap (λ (n : ℕ). length (states_in d) + n) (length-append (commands_in d) references) in
    let left : length (interfaces_of d) - length (places_of ms) ≡ length references = omega (arith, so_many, all) in
    ap₂ (λ (xs : List (Option ℕ)) (n : ℕ). xs ++ replicate n None) first left
    ∙ append_assoc (map whose_at (states_in d)) (map whose_at (commands_in d)) (replicate (length references) None)
    ∙ ap (λ (l : List (Option ℕ)). map whose_at (states_in d) ++ (map whose_at (commands_in d) ++ l))
    (sym (controllers_places 0 d.controllers))
    ∙ ap (λ (l : List (Option ℕ)). map whose_at (states_in d) ++ l)
    (sym (map-append whose_at (commands_in d) references))
    ∙ sym (map-append whose_at (states_in d) (commands_in d ++ references))

-- ---- How many

states_total : (component : ℕ) (ms : List Mounted) → length (places_from states_count component ms) ≡ all_states ms
states_total component [] = refl
states_total component (m ∷ ms) =
    length-append (replicate (states_count m) (Some component)) (places_from states_count (component + 1) ms)
    ∙ ap₂ (λ (m n : ℕ). m + n) (length-replicate (states_count m) (Some component)) (states_total (component + 1) ms)

commands_total : (component : ℕ) (ms : List Mounted)
    → length (places_from commands_count component ms) ≡ all_commands ms
commands_total component [] = refl
commands_total component (m ∷ ms) =
    length-append (replicate (commands_count m) (Some component)) (places_from commands_count (component + 1) ms)
    ∙ ap₂ (λ (m n : ℕ). m + n) (length-replicate (commands_count m) (Some component))
    (commands_total (component + 1) ms)

-- there are places for all states and commands
pub places_fit : (d : Description)
    → all_states (map mounted d.components) + all_commands (map mounted d.components) ≤ length (interfaces_of d)
places_fit d =
    let ms = map mounted d.components in
    let references = at_controllers 0 d.controllers in
    let states : length (states_in d) ≡ all_states ms =
    sym (length-map (states_in d) whose_at) ∙ ap length (states_places d) ∙ states_total 0 ms in
    let commands : length (commands_in d) ≡ all_commands ms =
    sym (length-map (commands_in d) whose_at) ∙ ap length (commands_places d) ∙ commands_total 0 ms in
    let all : length (interfaces_of d) ≡ length (states_in d) + (length (commands_in d) + length references) =
    length-append (states_in d) (commands_in d ++ references)
    ∙ ap (λ (n : ℕ). length (states_in d) + n) (length-append (commands_in d) references) in
    omega (arith, states, commands, all)

-- ---- Which are available

-- what is kept of an interface at first, where its component is among these
abbrev opened_of : List Mounted → Interface → Loan
opened_of ms i = if is_up ms (whose_at i) then made_available true (idle_of i) else idle_of i

opened_now : (ms : List Mounted) (is : List Interface)
    → AllByRecursion (λ (i : Interface). opened_of ms i ≡ opened_of ms i) is
opened_now ms [] = tt
opened_now ms (i ∷ is) = (refl, opened_now ms is)

opened_each : (ms : List Mounted) (is : List Interface)
    → opened ms 0 (map whose_at is) (map idle_of is) ≡ map (opened_of ms) is
opened_each ms is =
    places_each (is_up ms) (made_available true) whose_at idle_of (opened_of ms) [] is (opened_now ms is)

-- a component at start is in the described state
up_at : (cs : List CompDesc) (place : ℕ) → is_up (map mounted cs) (Some place) ≡ running (map (λ c. c.initial) cs) place
up_at [] place = refl
up_at (c ∷ cs) zero = refl
up_at (c ∷ cs) (suc place) = up_at cs place

module _ (d : Description) (blanks : Blanks) (sessions : ℕ) where
  abbrev s : State
  s = boot d blanks sessions

  abbrev ms : List Mounted
  ms = map mounted d.components

  -- nobody claims an interface at boot
  pub none_owns : (i : Interface) → owner s i ≡ None
  none_owns i = if_both (λ (o : Option ℕ). o) i.called.is_command None None None refl refl

  -- an interface is available at boot as its component is
  opened_case : (is_command up : Bool) (own : Option ℕ) (there : Bool) → own ≡ None → there ≡ up
      → ◌≡◌ {A = Loan}
      (if up then record { value = Unset; owner = None; is_command = is_command; is_available = true }
      else record { value = Unset; owner = None; is_command = is_command; is_available = false })
      (record { value = Unset; owner = own; is_command = is_command; is_available = there })
  opened_case is_command true own there none same = rw (none, same) refl
  opened_case is_command false own there none same = rw (none, same) refl

  opened_at : (called : Called) (whose : Whose)
      → opened_of ms (record { called = called; whose = whose })
      ≡ loan_of (owner s) (available s) (unset (record { called = called; whose = whose }))
  opened_at called (of_joint component joint) =
      opened_case called.is_command (is_up ms (Some component)) _ _
      (none_owns (record { called = called; whose = of_joint component joint })) (sym (up_at d.components component))
  opened_at called (of_controller place) =
      opened_case called.is_command false _ _ (none_owns (record { called = called; whose = of_controller place })) refl

  opened_all : (is : List Interface) → map (opened_of ms) is ≡ map (loan_of (owner s) (available s)) (map unset is)
  opened_all [] = refl
  opened_all (i ∷ is) = ap₂ (λ (l : Loan) (ls : List Loan). l ∷ ls) (opened_at i.called i.whose) (opened_all is)

  -- so the board is opened
  pub opened_is : opened ms 0 (map whose_at (interfaces_of d)) (map idle_of (interfaces_of d))
      ≡ map (loan_of (owner s) (available s)) (map unset (interfaces_of d))
  opened_is = opened_each ms (interfaces_of d) ∙ opened_all (interfaces_of d)

-- ---- What is measured

-- To measure components is to read components that never fail.
abbrev pub unfailing : CompDesc → CompDesc
unfailing c = record c { fail_read = [] }

abbrev pub never_failing : Mounted → Mounted
never_failing m = record m { hardware = record m.hardware { description = unfailing m.hardware.description } }

-- the read of one succeeds wherever its interfaces are available
succeeds_so : (up : Bool) → (up && true) ≡ up
succeeds_so true = refl
succeeds_so false = refl

pub measured_is_read : (at : ℕ) (loans : List Loan) (ms : List Mounted)
    → after_measures_of at loans ms ≡ after_reads_of 0 at loans (map never_failing ms)
measured_is_read at loans [] = refl
measured_is_read at loans (m ∷ ms) =
    let h = m.hardware in
    let measured = with_values loans at (measured_states h.description h.bodies) in
    measured_is_read (at + states_count m) (after_measure_of at loans m) ms
    ∙ ap (λ (up : Bool). after_reads_of 0 (at + states_count m) (if up then measured else loans) (map never_failing ms))
    (sym (succeeds_so (is_available h.life)))

-- a description whose components never fail has the same interfaces
pub same_at_components : (call : IfaceName → Called) (kinds : JointDesc → List Kind) (component place : ℕ)
    (cs : List CompDesc)
    → at_components call kinds component place (map unfailing cs) ≡ at_components call kinds component place cs
same_at_components call kinds component place [] = refl
same_at_components call kinds component place (c ∷ cs) =
    ap (λ (l : List Interface). at_joints call kinds component place c.joints ++ l)
    (same_at_components call kinds (component + 1) (place + length c.joints) cs)

-- interfaces that hold nothing yet
unset_at : (is : List Interface) → map (λ (v : InterfaceValue). v.interface) (map unset is) ≡ is
unset_at [] = refl
unset_at (i ∷ is) = ap (λ (l : List Interface). i ∷ l) (unset_at is)

-- what is told of components that were put to work
seen : {A : Type 0} (f : CompDesc → A) (g : Mounted → A) → ((c : CompDesc) → f c ≡ g (mounted c)) → (cs : List CompDesc)
    → map f cs ≡ map g (map mounted cs)
seen f g same [] = refl
seen f g same (c ∷ cs) = ap₂ (λ x xs. x ∷ xs) (same c) (seen f g same cs)

-- and as they never fail
seen_never : {A : Type 0} (f : CompDesc → A) (g : Mounted → A) → ((c : CompDesc) → f c ≡ g (never_failing (mounted c)))
    → (cs : List CompDesc)
    → map f cs ≡ map g (map never_failing (map mounted cs))
seen_never f g same cs = seen f (λ m. g (never_failing m)) same cs ∙ sym (map-map g never_failing (map mounted cs))

bodies_are : (cs : List CompDesc)
    → flat_map bodies_at_start cs ≡ flat_map (λ (m : Mounted). m.hardware.bodies) (map mounted cs)
bodies_are [] = refl
bodies_are (c ∷ cs) = ap (λ (l : List BodyState). bodies_at_start c ++ l) (bodies_are cs)

bodies_never : (cs : List CompDesc)
    → flat_map bodies_at_start cs ≡ flat_map (λ (m : Mounted). m.hardware.bodies) (map never_failing (map mounted cs))
bodies_never [] = refl
bodies_never (c ∷ cs) = ap (λ (l : List BodyState). bodies_at_start c ++ l) (bodies_never cs)

joints_are : (cs : List CompDesc)
    → AllByRecursion (λ (m : Mounted). length m.hardware.bodies ≡ length m.hardware.description.joints) (map mounted cs)
joints_are [] = tt
joints_are (c ∷ cs) = (length-map c.joints body_at_start, joints_are cs)

-- the components that are read are those that are inactive or active
reads_at : (cs : List CompDesc) (place : ℕ)
    → option_map_or (λ (p : CompDesc × Life). read_succeeds p.0 p.1 0)
    (slice_get (zip (map unfailing cs) (map (λ c. c.initial) cs)) place) false ≡ running (map (λ c. c.initial) cs) place
reads_at [] place = refl
reads_at (c ∷ cs) zero = succeeds_so (is_available c.initial)
reads_at (c ∷ cs) (suc place) = reads_at cs place

module _ (d : Description) (blanks : Blanks) (sessions : ℕ) where
  abbrev never : Description
  never = record d { components = map unfailing d.components }

  -- the manager at boot, before its values are read, and where no component fails
  abbrev before : State
  before = record (boot never blanks sessions)
      { lives = lives_at_start d; bodies = all_bodies_at_start d; values = map unset (interfaces_of d) }

  same_interfaces : interfaces_of never ≡ interfaces_of d
  same_interfaces =
      ap₂ (λ (states commands : List Interface). states ++ (commands ++ at_controllers 0 d.controllers))
      (same_at_components a_state (λ j. j.states) 0 0 d.components)
      (same_at_components a_command (λ j. j.commands) 0 0 d.components)

  before_wired : IsWired before (map never_failing (map mounted d.components))
  before_wired = record {
    components = seen_never unfailing (λ (m : Mounted). m.hardware.description) (λ c. refl) d.components;
    lives = seen_never (λ (c : CompDesc). c.initial) (λ (m : Mounted). m.hardware.life) (λ c. refl) d.components;
    bodies = bodies_never d.components;
    joints = all_of_each (λ (m : Mounted). length m.hardware.bodies ≡ length m.hardware.description.joints)
        (λ (m : Mounted). length m.hardware.bodies ≡ length m.hardware.description.joints) never_failing
        (λ m same. same) (map mounted d.components) (joints_are d.components);
    interfaces = unset_at (interfaces_of d) ∙ sym same_interfaces;
  }

  -- What is measured is what the interfaces hold at start.
  pub measured_is : (own : Interface → Option ℕ) (there : Interface → Bool)
      → after_measures_of 0 (map (loan_of own there) (map unset (interfaces_of d))) (map mounted d.components)
      ≡ map (loan_of own there) (values_at_start d)
  measured_is own there =
      measured_is_read 0 (map (loan_of own there) (map unset (interfaces_of d))) (map mounted d.components)
      ∙ reads_are own there before (map never_failing (map mounted d.components)) before_wired
      ∙ ap (λ (test : ℕ → Bool). map (loan_of own there)
      (after_reads test (all_bodies_at_start d) (map unset (interfaces_of d)))) (fun_ext (reads_at d.components))

-- ---- All

unclaimed_all : (cs : List CompDesc)
    → AllByRecursion (λ (m : Mounted). m.hardware.claimed ≡ claimed_by m.hardware.description []) (map mounted cs)
unclaimed_all [] = tt
unclaimed_all (c ∷ cs) = (refl, unclaimed_all cs)

at_rest : (cs : List CompDesc) → AllByRecursion IsAtRest (map mounted cs)
at_rest [] = tt
at_rest (c ∷ cs) = (record { failed = refl; written = refl }, at_rest cs)

-- This was made of a description: its components are put to work; and of the board, idle at first, the places of
-- inactive and active components were opened, and then measured.
pub record IsMade (d : Description) (w : Wired) : Type 0 where
  pub components : w.components ≡ map mounted d.components
  pub places : w.places ≡ all_places (map mounted d.components) (length (interfaces_of d))
  pub loans : w.loans
      ≡ after_measures_of 0 (opened (map mounted d.components) 0 w.places (map idle_of (interfaces_of d)))
      (map mounted d.components)

module _ (d : Description) (blanks : Blanks) (sessions : ℕ) where
  abbrev booted : State
  booted = boot d blanks sessions

  -- what is read at start, and what it shows
  abbrev test : ℕ → Bool
  test = running (lives_at_start d)

  abbrev bodies : List BodyState
  bodies = all_bodies_at_start d

  empty_first : (is : List Interface) → AllByRecursion (IsEmptyUnlessAvailable booted) (map unset is)
  empty_first [] = tt
  empty_first (i ∷ is) = (λ gone. refl, empty_first is)

  -- where a component is not available, its interfaces are not read
  empty_all : (is : List Interface)
      → AllByRecursion (IsEmptyUnlessAvailable booted) (after_reads test bodies (map unset is))
  empty_all is =
      all_of_each (IsEmptyUnlessAvailable booted) (IsEmptyUnlessAvailable booted) (read_of test bodies)
      (λ v. unread (lives_at_start d) (active booted) test bodies v (λ c up. up)) (map unset is) (empty_first is)

  -- what the board keeps then
  pub loans_are : (w : Wired) → IsMade d w → w.loans ≡ map (loan_of (owner booted) (available booted)) booted.values
  loans_are w made =
      made.loans
      ∙ ap (λ (ps : List (Option ℕ)). after_measures_of 0
      (opened (map mounted d.components) 0 ps (map idle_of (interfaces_of d))) (map mounted d.components))
      (made.places ∙ places_are d)
      ∙ ap (λ (ls : List Loan). after_measures_of 0 ls (map mounted d.components)) (opened_is d blanks sessions)
      ∙ measured_is d blanks sessions (owner booted) (available booted)

  -- What was made of the description is the hardware of the manager at boot.
  pub start_is : (w : Wired) → IsMade d w → IsHardwareOf booted w
  start_is w made = record {
    wired = rw made.components (record {
      components =
          sym (map-id d.components)
          ∙ seen (λ (c : CompDesc). c) (λ (m : Mounted). m.hardware.description) (λ c. refl) d.components;
      lives = seen (λ (c : CompDesc). c.initial) (λ (m : Mounted). m.hardware.life) (λ c. refl) d.components;
      bodies = bodies_are d.components;
      joints = joints_are d.components;
      interfaces =
          interfaces_stay (read_of test bodies) (read_keeps test bodies) (map unset (interfaces_of d))
          ∙ unset_at (interfaces_of d);
    });
    loans = loans_are w made;
    places = made.places ∙ places_are d;
    claims = rw made.components (claimed_nothing booted 0 (map mounted d.components) tt (unclaimed_all d.components));
    rest = rw made.components (at_rest d.components);
    empty = empty_all (interfaces_of d);
  }

-- ---- What is kept

pub free_idle : (is : List Interface) → AreFree (map idle_of is)
free_idle [] = tt
free_idle (i ∷ is) = (refl, free_idle is)

sound_loans : (own : Interface → Option ℕ) (there : Interface → Bool) → ((i : Interface) → own i ≡ None)
    → (vs : List InterfaceValue) → AreSound (map (loan_of own there) vs)
sound_loans own there none [] = tt
sound_loans own there none (v ∷ vs) =
    (free-IsSound (loan_of own there v) (none v.interface), sound_loans own there none vs)

few_joints : (cs : List CompDesc) → AllByRecursion CanBeMade cs → AreFew (map mounted cs)
few_joints [] all = tt
few_joints (c ∷ cs) all = (all.0.joints, few_joints cs all.1)

-- What was made of the description is kept so.
pub managed_is : (d : Description) (w : Wired) (first : ℕ) → IsMade d w → first ≡ all_states w.components
    → length w.loans ≡ length (interfaces_of d)
    → All CanBeMade d.components → length d.components < 2 ^ 32 → IsManaged first w
managed_is d w first made is count can few = record {
  first = is;
  fits = let fit = places_fit d in rw (is, made.components, count) fit;
  places = ap length (made.places ∙ places_are d) ∙ length-map (interfaces_of d) whose_at ∙ sym count;
  few = rw (made.components, length-map d.components mounted) few;
  joints = rw made.components (few_joints d.components (recursion_from_All CanBeMade d.components can));
  sound = rw (loans_are d no_blanks 0 w made)
      (sound_loans (owner (boot d no_blanks 0)) (available (boot d no_blanks 0)) (none_owns d no_blanks 0)
      (values_at_start d));
}
