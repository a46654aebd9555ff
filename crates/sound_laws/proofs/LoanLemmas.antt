-- Loans of a steady state hold: what an active controller reads is a state interface, available, and so holds a number.
use Rattle.std.proofs.Common.{◌≡◌, ℕ, zero, suc, ◌+◌, Bool, true, false, List, [], ◌∷◌, ◌++◌, length, map, Option}
use Rattle.std.proofs.Common.{Some, None, inl, inr, refl, sym, ◌∙◌, subst, ap, true≢false, arith, lt-ltb}
use Rattle.std.specs.Prelude.{◌||◌, not, if◌then◌else◌, flat_map, position, slice_index_or}
use Rattle.std.specs.List.{AllByRecursion, Contains, list_any, position_or_len}
use Rattle.std.specs.Option.{option_map_or}
use Rattle.std.proofs.lemmas.Bool.{and_parts, and_from, or_left, or_right, cases_lt}
use Rattle.std.proofs.lemmas.List.Folds.{list_any-append, list_any_none}
use Rattle.std.proofs.lemmas.List.Quantifiers.{position-Some}
use Rattle.std.proofs.lemmas.List.Sums.{fails_before_first}
use Rattle.std.proofs.lemmas.Slice.Eq.{bytes_eq-Decides}
use Rattle.sequence.proofs.ListLemmas.{any_map, any_flat_map, all_append}
use Rattle.fixed_num.specs.declared.value.Value.{Value}
use Rattle.iface_names.specs.Interfaces.{same_interface}
use Rattle.iface_names.specs.Sameness.{same_interface-Decides}
use Rattle.iface_names.specs.declared.interface.IfaceName.{IfaceName}
use Rattle.iface_names.specs.declared.interface.IfaceName.TheVariants.{Joint}
use Rattle.iface_names.specs.declared.kind.Kind.{Kind}
use Rattle.cm_document.proofs.DistinctLemmas.{all_so}
use Rattle.cm_document.proofs.PlaceLemmas.{called_by_names}
use Rattle.cm_document.specs.Described.{states_of_joint, states_of}
use Rattle.cm_document.specs.Links.{is_among, commands_of, references_of}
use Rattle.cm_document.specs.Places.{Called, a_state, a_command, Interface, at_components}
use Rattle.cm_document.specs.Places.{at_controllers, interfaces_of, called_in}
use Rattle.cm_document.specs.Valid.{IsValid}
use Rattle.cm_document.specs.declared.description.CompDesc.{CompDesc}
use Rattle.cm_document.specs.declared.description.Description.{Description}
use Rattle.cm_document.specs.declared.description.JointDesc.{JointDesc}
use Rattle.cm_document.specs.declared.life.Life.{Life}
use Rattle.cm_document.specs.declared.life.Life.TheVariants.{Unconfigured}
use Rattle.cm_model.proofs.InterfaceLemmas.{all_map_back, components_all, controllers_all}
use Rattle.cm_model.proofs.LoadedLemmas.{all_from}
use Rattle.cm_model.specs.Claims.{is_state_named, value_where}
use Rattle.cm_model.specs.Components.{is_available}
use Rattle.cm_model.specs.Loans.{names_at, reads_at, is_number, is_there, LoansHold}
use Rattle.cm_model.specs.Order.{controller_at}
use Rattle.cm_model.specs.Serials.{IsNumbered}
use Rattle.cm_model.specs.State.{State, active}
use Rattle.cm_model.specs.Steady.{HoldsNumber, IsSteady}
use Rattle.cm_model.specs.Values.{InterfaceValue, running, belongs_to, is_state_of}
use Rattle.switch_plan.proofs.ElementLemmas.{some_of, any_from}
use Rattle.sound_laws.proofs.InterfaceLemmas.{is_named, has_named, interfaces_of_component, same_turned}
use Rattle.sound_laws.proofs.ValidLemmas.{IsChecked, valid-IsChecked}

-- ---- Lists

-- where no place is found, none passes
pub none_at : {A : Type 0} (test : A → Bool) (xs : List A) → position test xs ≡ None → list_any test xs ≡ false
none_at test xs none =
    list_any_none test xs (λ k d below.
    elim (cases_lt (position_or_len test xs) (length xs)) [
      | inl inside ↦
          (let found : position test xs ≡ Some (position_or_len test xs) =
          rw (lt-ltb (position_or_len test xs) (length xs) inside) refl in
          let no : None ≡ Some (position_or_len test xs) = sym none ∙ found in cc)
      | inr past ↦ fails_before_first test xs k d (omega (arith, past, below))
    ])

-- ---- Values

-- the one or the other holds a number, whichever passes
number_of_one : (passes others : Bool) (one other : Value) → (passes ≡ true → is_number one ≡ true)
    → (others ≡ true → is_number other ≡ true) → (passes || others) ≡ true
    → is_number (if passes then one else other) ≡ true
number_of_one true others one other first rest any = first refl
number_of_one false others one other first rest any = rest any

-- where all that pass hold a number, and some pass, the first that passes holds one
number_where : (test : Called → Bool) (vs : List InterfaceValue)
    → AllByRecursion (λ v. test v.interface.called ≡ true → is_number v.value ≡ true) vs
    → list_any (λ v. test v.interface.called) vs ≡ true → is_number (value_where test vs) ≡ true
number_where test [] all any = absurd (true≢false (sym any))
number_where test (v ∷ vs) all any =
    number_of_one (test v.interface.called) (list_any (λ (w : InterfaceValue). test w.interface.called) vs) v.value
    (value_where test vs) all.0 (number_where test vs all.1) any

-- a component runs where its lifecycle state is one of the available ones
pub running_at : (lives : List Life) (k : ℕ) → running lives k ≡ is_available (slice_index_or lives k Unconfigured)
running_at [] zero = refl
running_at [] (suc k) = refl
running_at (life ∷ lives) zero = refl
running_at (life ∷ lives) (suc k) = running_at lives k

-- ---- Of one name

-- the joint of a state interface
pub record HasJoint (cs : List CompDesc) (interface : IfaceName) : Type 0 where
  pub component : CompDesc
  pub listed : Contains cs component
  pub joint : JointDesc
  pub inside : Contains component.joints joint
  pub kind : Kind
  pub same : interface ≡ Joint joint.name kind

joint_of_state : (cs : List CompDesc) (interface : IfaceName) → is_among interface (states_of cs) ≡ true
    → HasJoint cs interface
joint_of_state cs interface among =
    let c = some_of (λ (c : CompDesc). list_any (same_interface interface) (flat_map states_of_joint c.joints)) cs
    (sym (any_flat_map (same_interface interface) (λ (c : CompDesc). flat_map states_of_joint c.joints) cs) ∙ among) in
    let j = some_of (λ (j : JointDesc). list_any (same_interface interface) (states_of_joint j)) c.0.joints
    (sym (any_flat_map (same_interface interface) states_of_joint c.0.joints) ∙ c.2) in
    let kind = some_of (λ (kind : Kind). same_interface interface (Joint j.0.name kind)) j.0.states
    (sym (any_map (same_interface interface) (Joint j.0.name) j.0.states) ∙ j.2) in
    record {
      component = c.0;
      listed = c.1;
      joint = j.0;
      inside = j.1;
      kind = kind.0;
      same =
          (same_interface-Decides interface (Joint j.0.name kind.0)).0 kind.2;
    }

module _ (d : Description) (lives : List Life) (interface : IfaceName) where
  -- where it is a state of this name, it is one of a component that runs
  abbrev Runs : Interface → Type 0
  Runs x = is_state_named interface x.called ≡ true → is_state_of (running lives) x ≡ true

  runs_of : (x : Interface)
      → (same_interface x.called.name interface ≡ true → belongs_to (running lives) x.whose ≡ true) → Runs x
  runs_of x of named =
      let parts = and_parts (not x.called.is_command) (same_interface x.called.name interface) named in
      and_from (not x.called.is_command) (belongs_to (running lives) x.whose) parts.0 (of parts.1)

  all_run : AllByRecursion
      (λ x. same_interface x.called.name interface ≡ true → belongs_to (running lives) x.whose ≡ true)
      (at_components a_state (λ j. j.states) 0 0 d.components)
      → AllByRecursion Runs (interfaces_of d)
  all_run states =
      all_append Runs (at_components a_state (λ j. j.states) 0 0 d.components)
      (at_components a_command (λ j. j.commands) 0 0 d.components ++ at_controllers 0 d.controllers)
      (all_so _ Runs runs_of (at_components a_state (λ j. j.states) 0 0 d.components) states)
      (all_append Runs (at_components a_command (λ j. j.commands) 0 0 d.components) (at_controllers 0 d.controllers)
      (components_all Runs a_command (λ j. j.commands) (λ component n joint kind named. absurd (true≢false (sym named)))
      0 0 d.components)
      (controllers_all Runs (λ p name named. absurd (true≢false (sym named))) 0 d.controllers))

  -- a state interface of the description stands among the listed ones
  stands : is_among interface (states_of d.components) ≡ true → list_any (is_state_named interface) (called_in d) ≡ true
  stands among =
      let r = some_of (same_interface interface) (states_of d.components) among in
      let here : list_any (λ name. same_interface name interface) (states_of d.components) ≡ true =
      any_from (λ name. same_interface name interface) (states_of d.components) r.0 r.1
      (same_turned interface r.0 r.2) in
      let first : list_any (is_state_named interface) (map a_state (states_of d.components)) ≡ true =
      any_map (is_state_named interface) a_state (states_of d.components) ∙ here in
      ap (list_any (is_state_named interface)) (called_by_names d)
      ∙ list_any-append (is_state_named interface) (map a_state (states_of d.components))
      (map a_command (commands_of d.components ++ references_of d.controllers))
      ∙ or_left (list_any (is_state_named interface) (map a_state (states_of d.components)))
      (list_any (is_state_named interface) (map a_command (commands_of d.components ++ references_of d.controllers)))
      first

-- ---- Presence

module _ (s : State) (checked : IsChecked s.description) (steady : IsSteady s) where
  abbrev d : Description
  d = s.description

  -- what is a state interface and available holds a number
  module _ (interface : IfaceName) (among : is_among interface (states_of d.components) ≡ true)
      (there : is_there d s.lives interface ≡ true) where
    number_at : AllByRecursion
        (λ x. same_interface x.called.name interface ≡ true → belongs_to (running s.lives) x.whose ≡ true)
        (at_components a_state (λ j. j.states) 0 0 d.components)
        → is_number (value_where (is_state_named interface) s.values) ≡ true
    number_at states =
        let kept = steady.in_order in
        let known : AllByRecursion (λ v. Runs d s.lives interface v.interface) s.values =
        all_map_back (Runs d s.lives interface) (λ (v : InterfaceValue). v.interface) s.values
        (subst (AllByRecursion (Runs d s.lives interface)) (sym kept.described) (all_run d s.lives interface states)) in
        let listed : list_any (λ v. is_state_named interface v.interface.called) s.values ≡ true =
        sym (any_map (is_state_named interface) (λ (x : Interface). x.called)
        (map (λ (v : InterfaceValue). v.interface) s.values)
        ∙ any_map (λ (x : Interface). is_state_named interface x.called) (λ (v : InterfaceValue). v.interface) s.values)
        ∙ ap (λ (xs : List Interface). list_any (is_state_named interface) (map (λ x. x.called) xs)) kept.described
        ∙ stands d s.lives interface among in
        number_where (is_state_named interface) s.values
        (all_from (λ v. Runs d s.lives interface v.interface) (HoldsNumber (running s.lives)) _
        (λ v runs holds named. holds (runs named)) s.values known kept.numbers) listed

  module _ (joint : List ℕ) (kind : Kind) (other : CompDesc)
      (among : is_among (Joint joint kind) (states_of d.components) ≡ true)
      (there : is_there d s.lives (Joint joint kind) ≡ true) (has : list_any (has_named joint) d.components ≡ true)
    where
      number_of : (o : Option ℕ) → position (has_named joint) d.components ≡ o
          → is_number (value_where (is_state_named (Joint joint kind)) s.values) ≡ true
      number_of None at = absurd (true≢false (sym has ∙ none_at (has_named joint) d.components at))
      number_of (Some k) at =
          let found = position-Some (has_named joint) d.components k other at in
          let up : is_available (slice_index_or s.lives k Unconfigured) ≡ true =
          ap (λ o. option_map_or (λ k. is_available (slice_index_or s.lives k Unconfigured)) o true) (sym at) ∙ there in
          let first : 0 + k ≡ k = omega arith in
          number_at (Joint joint kind) among there
          (interfaces_of_component joint kind (λ whose. belongs_to (running s.lives) whose ≡ true) false (λ j. j.states)
          d.components 0 0 k other checked.joints found.0 found.1
          (λ n. ap (running s.lives) first ∙ running_at s.lives k ∙ up))

  pub read_number : (p : ℕ) (interface : IfaceName) → active s p ≡ true → reads_at d.controllers p interface ≡ true
      → is_number (value_where (is_state_named interface) s.values) ≡ true
  read_number p interface runs reads =
      let among = checked.reads p interface reads in
      let at = joint_of_state d.components interface among in
      let c = controller_at d.controllers p in
      let named : names_at d.controllers p interface ≡ true =
      list_any-append (same_interface interface) c.claims c.reads
      ∙ or_right (list_any (same_interface interface) c.claims) (list_any (same_interface interface) c.reads) reads in
      let there = steady.together.available p interface runs named in
      let has : list_any (has_named at.joint.name) d.components ≡ true =
      any_from (has_named at.joint.name) d.components at.component at.listed
      (any_from (is_named at.joint.name) at.component.joints at.joint at.inside
      ((bytes_eq-Decides at.joint.name at.joint.name).1 refl)) in
      subst (λ x. is_number (value_where (is_state_named x) s.values) ≡ true) (sym at.same)
      (number_of at.joint.name at.kind at.component
      (subst (λ x. is_among x (states_of d.components) ≡ true) at.same among)
      (subst (λ x. is_there d s.lives x ≡ true) at.same there) has (position (has_named at.joint.name) d.components)
      refl)

-- The loans of a steady state hold, where serials rise.
pub loans_hold : (s : State) → IsValid s.description → IsSteady s → IsNumbered s → LoansHold s
loans_hold s valid steady numbered = record {
  once = steady.in_order.once;
  rising = numbered.rising;
  together = steady.together;
  present = read_number s (valid-IsChecked s.description valid) steady;
  empty = steady.in_order.empty;
  unclaimed = steady.in_order.unclaimed;
  marked = steady.in_order.marked;
}
