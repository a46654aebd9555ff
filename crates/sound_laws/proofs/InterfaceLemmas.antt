-- Whose the listed interfaces are: where a joint has a name, each interface of that name is its component's, and each
-- reference is its exporter's.
use Rattle.std.proofs.Common.{◌≡◌, ℕ, zero, suc, ◌+◌, ◌<◌, Bool, true, false, List, [], ◌∷◌, ◌++◌}
use Rattle.std.proofs.Common.{length, map, get_or, inl, inr, refl, sym, ◌∙◌, subst, true≢false, arith}
use Rattle.std.specs.List.{AllByRecursion, IsDistinct, list_any}
use Rattle.std.proofs.lemmas.Bool.{and_parts, or_cases, or_parts, or_from, false_from_ne_true}
use Rattle.std.proofs.lemmas.List.Folds.{list_any_at, list_any-append}
use Rattle.std.proofs.lemmas.Slice.Eq.{bytes_eq-Decides}
use Rattle.sequence.proofs.ListLemmas.{any_flat_map, all_append}
use Rattle.iface_names.specs.Interfaces.{same_kind, same_interface}
use Rattle.iface_names.specs.Names.{same_name}
use Rattle.iface_names.specs.Sameness.{same_interface-Decides}
use Rattle.iface_names.specs.declared.interface.IfaceName.{IfaceName}
use Rattle.iface_names.specs.declared.interface.IfaceName.TheVariants.{Joint}
use Rattle.iface_names.specs.declared.kind.Kind.{Kind}
use Rattle.cm_document.proofs.DistinctLemmas.{all_of, all_so, all_map}
use Rattle.cm_document.specs.Links.{joints_of, refs_of, references_of, is_among}
use Rattle.cm_document.specs.Places.{Called, a_command, Whose, of_joint, of_controller}
use Rattle.cm_document.specs.Places.{Interface, at_joints, at_components, at_controllers}
use Rattle.cm_document.specs.declared.description.CompDesc.{CompDesc}
use Rattle.cm_document.specs.declared.description.CtlDesc.{CtlDesc}
use Rattle.cm_document.specs.declared.description.JointDesc.{JointDesc}
use Rattle.cm_model.proofs.InterfaceLemmas.{joints_all}

-- ---- Joints of one name

module _ (joint : List ℕ) where
  -- the joint has this name
  abbrev pub is_named : JointDesc → Bool
  is_named j = same_name j.name joint

  -- a joint of the component has
  abbrev pub has_named : CompDesc → Bool
  has_named c = list_any is_named c.joints

  -- what differs from one of this name has another
  other_name : (name other : List ℕ) → same_name name joint ≡ true → same_name name other ≡ false
      → same_name other joint ≡ false
  other_name name other same differ =
      false_from_ne_true (same_name other joint) (λ also.
      let e : name ≡ other = (bytes_eq-Decides name joint).0 same ∙ sym ((bytes_eq-Decides other joint).0 also) in
      true≢false (sym ((bytes_eq-Decides name other).1 e) ∙ differ))

  none_of_name : (name : List ℕ) (js : List JointDesc) → same_name name joint ≡ true
      → AllByRecursion (λ n. same_name name n ≡ false) (map (λ j. j.name) js)
      → list_any is_named js ≡ false
  none_of_name name [] same differ = refl
  none_of_name name (j ∷ js) same differ =
      or_from (is_named j) (list_any is_named js) (other_name name j.name same differ.0)
      (none_of_name name js same differ.1)

  -- of joints whose names differ, where one of the first has this name, none of the others has
  apart : (js ks : List JointDesc) → IsDistinct same_name (map (λ j. j.name) (js ++ ks)) → list_any is_named js ≡ true
      → list_any is_named ks ≡ false
  unfolding IsDistinct
  apart [] ks differ any = absurd (true≢false (sym any))
  apart (j ∷ js) ks differ any =
      elim (or_cases (is_named j) (list_any is_named js) any) [
        | inl here ↦ (or_parts (list_any is_named js) (list_any is_named ks)
            (sym (list_any-append is_named js ks) ∙ none_of_name j.name (js ++ ks) here differ.0)).1
        | inr later ↦ apart js ks differ.1 later
      ]

  behind : (js ks : List JointDesc) → IsDistinct same_name (map (λ j. j.name) (js ++ ks))
      → IsDistinct same_name (map (λ j. j.name) ks)
  unfolding IsDistinct
  behind [] ks differ = differ
  behind (j ∷ js) ks differ = behind js ks differ.1

  each_other : (js : List JointDesc) → list_any is_named js ≡ false → AllByRecursion (λ j. is_named j ≡ false) js
  each_other [] none = tt
  each_other (j ∷ js) none =
      let parts = or_parts (is_named j) (list_any is_named js) none in (parts.0, each_other js parts.1)

  module _ (kind : Kind) (P : Whose → Type 0) (command : Bool) where
    -- the interfaces of this name, states or commands, are whose this holds of
    abbrev pub IsOf : Interface → Type 0
    IsOf x = same_interface x.called.name (Joint joint kind) ≡ true → P x.whose

    abbrev called_so : IfaceName → Called
    called_so name = record { is_command = command; name = name }

    -- those of joints of other names are none of it
    joints_none : (kinds : JointDesc → List Kind) (component place : ℕ) (js : List JointDesc)
        → list_any is_named js ≡ false → AllByRecursion IsOf (at_joints called_so kinds component place js)
    joints_none kinds component place js none =
        joints_all IsOf called_so kinds component place js (all_so (λ j. is_named j ≡ false) _ (λ j other n kind' named.
        absurd (true≢false (sym (and_parts (same_name j.name joint) (same_kind kind' kind) named).0 ∙ other))) js
        (each_other js none))

    pub components_none : (kinds : JointDesc → List Kind) (component place : ℕ) (cs : List CompDesc)
        → list_any is_named (joints_of cs) ≡ false
        → AllByRecursion IsOf (at_components called_so kinds component place cs)
    components_none kinds component place [] none = tt
    components_none kinds component place (c ∷ cs) none =
        let parts = or_parts (list_any is_named c.joints) (list_any is_named (joints_of cs))
        (sym (list_any-append is_named c.joints (joints_of cs)) ∙ none) in
        all_append IsOf (at_joints called_so kinds component place c.joints)
        (at_components called_so kinds (component + 1) (place + length c.joints) cs)
        (joints_none kinds component place c.joints parts.0)
        (components_none kinds (component + 1) (place + length c.joints) cs parts.1)

    -- Where a component has a joint of this name, each interface of that name is its.
    pub interfaces_of_component : (kinds : JointDesc → List Kind) (cs : List CompDesc) (component place k : ℕ)
        (d : CompDesc) → IsDistinct same_name (map (λ j. j.name) (joints_of cs)) → k < length cs
        → has_named (get_or cs k d) ≡ true → ((n : ℕ) → P (of_joint (component + k) n))
        → AllByRecursion IsOf (at_components called_so kinds component place cs)
    interfaces_of_component kinds [] component place k d differ below has holds = absurd (omega (arith, below))
    interfaces_of_component kinds (c ∷ cs) component place zero d differ below has holds =
        let first : component + 0 ≡ component = omega arith in
        all_append IsOf (at_joints called_so kinds component place c.joints)
        (at_components called_so kinds (component + 1) (place + length c.joints) cs)
        (joints_all IsOf called_so kinds component place c.joints
        (all_of _ (λ j n kind' named. subst (λ m. P (of_joint m n)) first (holds n)) c.joints))
        (components_none kinds (component + 1) (place + length c.joints) cs (apart c.joints (joints_of cs) differ has))
    interfaces_of_component kinds (c ∷ cs) component place (suc k) d differ below has holds =
        let later : list_any is_named (joints_of cs) ≡ true =
        any_flat_map is_named (λ (c : CompDesc). c.joints) cs
        ∙ list_any_at has_named cs k d (omega (arith, below)) has in
        let none : has_named c ≡ false =
        false_from_ne_true (has_named c) (λ yes. true≢false (sym later ∙ apart c.joints (joints_of cs) differ yes)) in
        let next : component + suc k ≡ (component + 1) + k = omega arith in
        all_append IsOf (at_joints called_so kinds component place c.joints)
        (at_components called_so kinds (component + 1) (place + length c.joints) cs)
        (joints_none kinds component place c.joints none)
        (interfaces_of_component kinds cs (component + 1) (place + length c.joints) k d
        (behind c.joints (joints_of cs) differ) (omega (arith, below)) has
        (λ n. subst (λ m. P (of_joint m n)) next (holds n)))

-- ---- References of one name

pub same_turned : (interface j : IfaceName) → same_interface interface j ≡ true → same_interface j interface ≡ true
same_turned interface j same =
    (same_interface-Decides j interface).1 (sym ((same_interface-Decides interface j).0 same))

-- what follows in a list without a repeat has none either
names_behind : (xs ys : List IfaceName) → IsDistinct same_interface (xs ++ ys) → IsDistinct same_interface ys
unfolding IsDistinct
names_behind [] ys differ = differ
names_behind (x ∷ xs) ys differ = names_behind xs ys differ.1

module _ (interface : IfaceName) where
  none_same : (name : IfaceName) (names : List IfaceName) → same_interface interface name ≡ true
      → AllByRecursion (λ n. same_interface name n ≡ false) names → is_among interface names ≡ false
  none_same name [] same differ = refl
  none_same name (n ∷ names) same differ =
      or_from (same_interface interface n) (is_among interface names)
      (subst (λ x. same_interface x n ≡ false) (sym ((same_interface-Decides interface name).0 same)) differ.0)
      (none_same name names same differ.1)

  -- of names that differ, where it is one of the first, it is none of the others
  names_apart : (xs ys : List IfaceName) → IsDistinct same_interface (xs ++ ys) → is_among interface xs ≡ true
      → is_among interface ys ≡ false
  unfolding IsDistinct
  names_apart [] ys differ among = absurd (true≢false (sym among))
  names_apart (x ∷ xs) ys differ among =
      elim (or_cases (same_interface interface x) (is_among interface xs) among) [
        | inl here ↦ (or_parts (is_among interface xs) (is_among interface ys)
            (sym (list_any-append (same_interface interface) xs ys) ∙ none_same x (xs ++ ys) here differ.0)).1
        | inr later ↦ names_apart xs ys differ.1 later
      ]

  -- the controller exports it
  abbrev pub exports : CtlDesc → Bool
  exports c = is_among interface (refs_of c)

  module _ (P : Whose → Type 0) where
    -- an interface of this name is whose this holds of
    abbrev pub IsFor : Interface → Type 0
    IsFor x = same_interface x.called.name interface ≡ true → P x.whose

    names_none : (place : ℕ) (names : List IfaceName) → is_among interface names ≡ false
        → AllByRecursion IsFor (map (λ name. record { called = a_command name; whose = of_controller place }) names)
    names_none place [] none = tt
    names_none place (name ∷ names) none =
        let parts = or_parts (same_interface interface name) (is_among interface names) none in (
          (λ same. absurd (true≢false (sym (same_turned name interface same) ∙ parts.0))),
          names_none place names parts.1,
        )

    pub references_none : (place : ℕ) (cs : List CtlDesc) → is_among interface (references_of cs) ≡ false
        → AllByRecursion IsFor (at_controllers place cs)
    references_none place [] none = tt
    references_none place (c ∷ cs) none =
        let parts = or_parts (is_among interface (refs_of c)) (is_among interface (references_of cs))
        (sym (list_any-append (same_interface interface) (refs_of c) (references_of cs)) ∙ none) in
        all_append IsFor (map (λ name. record { called = a_command name; whose = of_controller place }) (refs_of c))
        (at_controllers (place + 1) cs)
        (names_none place (refs_of c) parts.0) (references_none (place + 1) cs parts.1)

    -- Where a controller exports a reference of this name, each of that name is its.
    pub references_of_controller : (cs : List CtlDesc) (place q : ℕ) (d : CtlDesc)
        → IsDistinct same_interface (references_of cs) → q < length cs
        → exports (get_or cs q d) ≡ true → P (of_controller (place + q))
        → AllByRecursion IsFor (at_controllers place cs)
    references_of_controller [] place q d differ below has holds = absurd (omega (arith, below))
    references_of_controller (c ∷ cs) place zero d differ below has holds =
        let first : place + 0 ≡ place = omega arith in
        all_append IsFor (map (λ name. record { called = a_command name; whose = of_controller place }) (refs_of c))
        (at_controllers (place + 1) cs)
        (all_map IsFor (λ name. record { called = a_command name; whose = of_controller place }) (refs_of c)
        (all_of _ (λ name same. subst (λ m. P (of_controller m)) first holds) (refs_of c)))
        (references_none (place + 1) cs (names_apart (refs_of c) (references_of cs) differ has))
    references_of_controller (c ∷ cs) place (suc q) d differ below has holds =
        let later : is_among interface (references_of cs) ≡ true =
        any_flat_map (same_interface interface) refs_of cs ∙ list_any_at exports cs q d (omega (arith, below)) has in
        let none : exports c ≡ false =
        false_from_ne_true (exports c)
        (λ yes. true≢false (sym later ∙ names_apart (refs_of c) (references_of cs) differ yes)) in
        let next : place + suc q ≡ (place + 1) + q = omega arith in
        all_append IsFor (map (λ name. record { called = a_command name; whose = of_controller place }) (refs_of c))
        (at_controllers (place + 1) cs)
        (names_none place (refs_of c) none)
        (references_of_controller cs (place + 1) q d (names_behind (refs_of c) (references_of cs) differ)
        (omega (arith, below)) has (subst (λ m. P (of_controller m)) next holds))
