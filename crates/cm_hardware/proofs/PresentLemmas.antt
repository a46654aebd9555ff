-- What a controller of a set that can run together claims is available: an interface of a component that is inactive or
-- active, or a reference of another controller of the set.
use Rattle.std.proofs.Common.{◌≡◌, ℕ, zero, suc, ◌+◌, ◌<◌, Bool, true, false, List, [], ◌∷◌}
use Rattle.std.proofs.Common.{◌++◌, map, length, Option, Some, None, refl, sym, subst, ap}
use Rattle.std.proofs.Common.{◌∙◌, arith, append_assoc, length-append, true≢false, lt-ltb}
use Rattle.std.specs.Prelude.{not, ◌==◌, ◌&&◌, find, position, filter_map, slice_index_or, slice_get}
use Rattle.std.specs.List.{AllByRecursion, IsDistinct, list_any, position_or_len}
use Rattle.std.specs.Option.{option_map_or}
use Rattle.std.proofs.lemmas.Bool.{and_parts, not-false, or_left, or_right, or_parts, false_from_ne_true, eq-eqb}
use Rattle.std.proofs.lemmas.Cmp.{nat_list_eq_equiv}
use Rattle.std.proofs.lemmas.List.Concat.{flat_map-append}
use Rattle.std.proofs.lemmas.List.Folds.{list_any-append}
use Rattle.std.proofs.lemmas.List.Quantifiers.{position-Some}
use Rattle.std.proofs.lemmas.List.{map-append}
use Rattle.std.proofs.lemmas.Slice.Eq.{bytes_eq-Decides}
use Rattle.sequence.proofs.ListLemmas.{any_map, any_flat_map, all_append}
use Rattle.iface_names.specs.Interfaces.{same_interface, interface_text}
use Rattle.iface_names.specs.Names.{same_name}
use Rattle.iface_names.specs.Sameness.{same_interface-Decides, same_interface-IsEquivalence}
use Rattle.iface_names.specs.declared.interface.IfaceName.{IfaceName}
use Rattle.iface_names.specs.declared.interface.IfaceName.TheVariants.{Joint}
use Rattle.iface_names.specs.declared.kind.Kind.{Kind}
use Rattle.cm_document.specs.Links.{joints_of, refs_of, references_of, is_among, exporter}
use Rattle.cm_document.specs.Places.{a_state, a_command, Whose, of_joint, of_controller, Interface}
use Rattle.cm_document.specs.Places.{at_joint, at_joints, at_components, at_controllers, interfaces_of}
use Rattle.cm_document.specs.Valid.{repeated_after, names_apart, interfaces_apart}
use Rattle.cm_document.specs.Valid.{few_enough, named_apart, valid, IsValid}
use Rattle.cm_document.specs.declared.description.CompDesc.{CompDesc}
use Rattle.cm_document.specs.declared.description.CtlDesc.{CtlDesc}
use Rattle.cm_document.specs.declared.description.Description.{Description}
use Rattle.cm_document.specs.declared.description.JointDesc.{JointDesc}
use Rattle.cm_document.specs.declared.life.Life.{Life}
use Rattle.cm_document.specs.declared.life.Life.TheVariants.{Unconfigured}
use Rattle.cm_document.proofs.DistinctLemmas.{all_of, all_so, all_map, repeated_after-IsDistinct}
use Rattle.cm_document.proofs.ReadingLemmas.{bind_Ok}
use Rattle.cm_model.specs.Claims.{is_command_named}
use Rattle.cm_model.specs.Components.{is_available}
use Rattle.cm_model.specs.Faults.{component_with}
use Rattle.cm_model.specs.Order.{Places, controller_at}
use Rattle.cm_model.specs.Scene.{claims_at}
use Rattle.cm_model.specs.Sound.{names_at, CanRunTogether}
use Rattle.cm_model.specs.State.{State, Loaded, is_active, active, claims_name, owner, available, available_in}
use Rattle.cm_model.specs.Values.{InterfaceValue, running}
use Rattle.cm_model.proofs.LoadedLemmas.{any_same}
use Rattle.cm_model.proofs.InterfaceLemmas.{all_map_back}
use Rattle.cm_places.specs.Placed.{command_place}
use Rattle.cm_hardware.specs.Outputs.{is_there_at}
use Rattle.cm_hardware.proofs.HeldLemmas.{components_so}
use Rattle.cm_document.proofs.ValidParts.{parts_of_valid}

-- ---- What stands once

-- Of things that differ, where one of the later ones passes a test that only alike ones pass, none of the earlier ones
-- does.
module _ {A : Type 0} (same : A → A → Bool) (test : A → Bool)
    (alike : (x y : A) → test x ≡ true → test y ≡ true → same x y ≡ true) where
  others_fail : (x : A) (ys : List A) → test x ≡ true → AllByRecursion (λ y. same x y ≡ false) ys
      → list_any test ys ≡ false
  others_fail x [] here differ = refl
  others_fail x (y ∷ ys) here differ =
      let not_y : test y ≡ false =
      false_from_ne_true (test y) (λ also. true≢false (sym (alike x y here also) ∙ differ.0)) in
      rw not_y (others_fail x ys here differ.1)

  none_before : (xs ys : List A) → IsDistinct same (xs ++ ys) → list_any test ys ≡ true → list_any test xs ≡ false
  unfolding IsDistinct
  none_before [] ys differ later = refl
  none_before (x ∷ xs) ys differ later =
      let not_x : test x ≡ false = false_from_ne_true (test x) (λ here.
      true≢false (sym (or_right (list_any test xs) (list_any test ys) later) ∙ sym (list_any-append test xs ys)
      ∙ others_fail x (xs ++ ys) here differ.0)) in
      rw not_x (none_before xs ys differ.1 later)

-- the first that passes stands after those that do not
first_after : {A : Type 0} (test : A → Bool) (pre rest : List A) (x : A) → list_any test pre ≡ false → test x ≡ true
    → position_or_len test (pre ++ x ∷ rest) ≡ length pre
first_after test [] rest x before here = rw here refl
first_after test (y ∷ pre) rest x before here =
    let parts = or_parts (test y) (list_any test pre) before in
    let one_more : 1 + length pre ≡ suc (length pre) = omega arith in
    rw parts.0 (ap (λ (n : ℕ). 1 + n) (first_after test pre rest x parts.1 here) ∙ one_more)

position_after : {A : Type 0} (test : A → Bool) (pre rest : List A) (x : A) → list_any test pre ≡ false → test x ≡ true
    → position test (pre ++ x ∷ rest) ≡ Some (length pre)
position_after test pre rest x before here =
    let all = pre ++ x ∷ rest in
    let first : position_or_len test all ≡ length pre = first_after test pre rest x before here in
    let inside : position_or_len test all < length all = omega (arith, first, length-append pre (x ∷ rest)) in
    rw (lt-ltb (position_or_len test all) (length all) inside) (ap (λ (n : ℕ). Some n) first)

-- ---- Whose an interface is

-- By its name the interface is of the component or of the controller whose it is said to be.
abbrev IsWhose : List CompDesc → List CtlDesc → IfaceName → Whose → Type 0
IsWhose components controllers name (of_joint component joint) = component_with components name ≡ Some component
IsWhose components controllers name (of_controller place) = exporter controllers name ≡ Some place

abbrev IsNamed : List CompDesc → List CtlDesc → Interface → Type 0
IsNamed components controllers i = IsWhose components controllers i.called.name i.whose

-- ---- Interfaces of components

-- a joint has this name
abbrev is_named : List ℕ → JointDesc → Bool
is_named name j = same_name j.name name

-- a joint of the component has
abbrev has_named : List ℕ → CompDesc → Bool
has_named name c = list_any (is_named name) c.joints

both_of_name : (name one other : List ℕ) → same_name one name ≡ true → same_name other name ≡ true
    → same_name one other ≡ true
both_of_name name one other here there =
    (bytes_eq-Decides one other).1 ((bytes_eq-Decides one name).0 here ∙ sym ((bytes_eq-Decides other name).0 there))

-- no component before the one of this joint has a joint of that name
before_it : (pre cs : List CompDesc) (c : CompDesc) (name : List ℕ)
    → IsDistinct same_name (map (λ j. j.name) (joints_of (pre ++ c ∷ cs))) → has_named name c ≡ true
    → list_any (has_named name) pre ≡ false
before_it pre cs c name differ here =
    let test : List ℕ → Bool = λ other. same_name other name in
    let names : List CompDesc → List (List ℕ) = λ each. map (λ (j : JointDesc). j.name) (joints_of each) in
    let split : names (pre ++ c ∷ cs) ≡ names pre ++ names (c ∷ cs) =
    ap (map (λ (j : JointDesc). j.name)) (flat_map-append (λ (c : CompDesc). c.joints) pre (c ∷ cs))
    ∙ map-append (λ (j : JointDesc). j.name) (joints_of pre) (joints_of (c ∷ cs)) in
    let told : (each : List CompDesc) → list_any test (names each) ≡ list_any (has_named name) each =
    λ each. any_map test (λ (j : JointDesc). j.name) (joints_of each)
    ∙ any_flat_map (is_named name) (λ (c : CompDesc). c.joints) each in
    let later : list_any test (names (c ∷ cs)) ≡ true =
    told (c ∷ cs) ∙ or_left (has_named name c) (list_any (has_named name) cs) here in
    sym (told pre)
    ∙ none_before same_name test (both_of_name name) (names pre) (names (c ∷ cs))
    (subst (IsDistinct same_name) split differ) later

-- each joint of a component is one of its joints
own_joints : (before js : List JointDesc) → AllByRecursion (λ j. list_any (is_named j.name) (before ++ js) ≡ true) js
own_joints before [] = tt
own_joints before (j ∷ js) = (
  list_any-append (is_named j.name) before (j ∷ js)
      ∙ or_right (list_any (is_named j.name) before) (list_any (is_named j.name) (j ∷ js))
      (or_left (is_named j.name j) (list_any (is_named j.name) js) ((bytes_eq-Decides j.name j.name).1 refl)),
  subst (λ (all : List JointDesc). AllByRecursion (λ j. list_any (is_named j.name) all ≡ true) js)
      (append_assoc before (j ∷ []) js) (own_joints (before ++ j ∷ []) js),
)

-- the interfaces of each joint of a component are its
joints_named : (all : List CompDesc) (controllers : List CtlDesc) (component place : ℕ) (js : List JointDesc)
    → AllByRecursion (λ j. (kind : Kind) → component_with all (Joint j.name kind) ≡ Some component) js
    → AllByRecursion (IsNamed all controllers) (at_joints a_command (λ j. j.commands) component place js)
joints_named all controllers component place [] each = tt
joints_named all controllers component place (j ∷ js) each =
    all_append (IsNamed all controllers) (at_joint a_command (λ j. j.commands) component place j)
    (at_joints a_command (λ j. j.commands) component (place + 1) js)
    (all_map (IsNamed all controllers)
    (λ kind. record { called = a_command (Joint j.name kind); whose = of_joint component place }) j.commands
    (all_of _ (λ kind. each.0 kind) j.commands))
    (joints_named all controllers component (place + 1) js each.1)

-- so those of all components that follow these
components_named : (controllers : List CtlDesc) (pre cs : List CompDesc) (component place : ℕ)
    → IsDistinct same_name (map (λ j. j.name) (joints_of (pre ++ cs))) → length pre ≡ component
    → AllByRecursion (IsNamed (pre ++ cs) controllers) (at_components a_command (λ j. j.commands) component place cs)
components_named controllers pre [] component place differ long = tt
components_named controllers pre (c ∷ cs) component place differ long =
    let all = pre ++ c ∷ cs in
    let whole : (pre ++ c ∷ []) ++ cs ≡ all = append_assoc pre (c ∷ []) cs in
    let next : length (pre ++ c ∷ []) ≡ component + 1 = omega (arith, length-append pre (c ∷ []), long) in
    let own = all_so (λ (j : JointDesc). list_any (is_named j.name) c.joints ≡ true)
    (λ (j : JointDesc). (kind : Kind) → component_with all (Joint j.name kind) ≡ Some component)
    (λ j here kind. position_after (has_named j.name) pre cs c (before_it pre cs c j.name differ here) here
    ∙ ap (λ (n : ℕ). Some n) long)
    c.joints (own_joints [] c.joints) in
    all_append (IsNamed all controllers) (at_joints a_command (λ j. j.commands) component place c.joints)
    (at_components a_command (λ j. j.commands) (component + 1) (place + length c.joints) cs)
    (joints_named all controllers component place c.joints own)
    (subst (λ (each : List CompDesc). AllByRecursion (IsNamed each controllers)
    (at_components a_command (λ j. j.commands) (component + 1) (place + length c.joints) cs)) whole
    (components_named controllers (pre ++ c ∷ []) cs (component + 1) (place + length c.joints)
    (subst (λ (each : List CompDesc). IsDistinct same_name (map (λ (j : JointDesc). j.name) (joints_of each)))
    (sym whole) differ) next))

-- ---- References

both_of_interface : (name one other : IfaceName) → same_interface name one ≡ true → same_interface name other ≡ true
    → same_interface one other ≡ true
both_of_interface name one other here there =
    (same_interface-Decides one other).1
    (sym ((same_interface-Decides name one).0 here) ∙ (same_interface-Decides name other).0 there)

not_before : (pre cs : List CtlDesc) (c : CtlDesc) (name : IfaceName)
    → IsDistinct same_interface (references_of (pre ++ c ∷ cs)) → is_among name (refs_of c) ≡ true
    → list_any (λ (c : CtlDesc). is_among name (refs_of c)) pre ≡ false
not_before pre cs c name differ here =
    let has : CtlDesc → Bool = λ each. is_among name (refs_of each) in
    let told : (each : List CtlDesc)
    → list_any (same_interface name) (references_of each) ≡ list_any has each =
    λ each. any_flat_map (same_interface name) refs_of each in
    let later : list_any (same_interface name) (references_of (c ∷ cs)) ≡ true =
    told (c ∷ cs) ∙ or_left (has c) (list_any has cs) here in
    sym (told pre)
    ∙ none_before same_interface (same_interface name) (both_of_interface name) (references_of pre)
    (references_of (c ∷ cs))
    (subst (IsDistinct same_interface) (flat_map-append refs_of pre (c ∷ cs)) differ) later

-- each of these is among all of which they are the rest
own_references : (before names : List IfaceName) → AllByRecursion (λ name. is_among name (before ++ names) ≡ true) names
own_references before [] = tt
own_references before (name ∷ names) = (
  list_any-append (same_interface name) before (name ∷ names)
      ∙ or_right (is_among name before) (is_among name (name ∷ names))
      (or_left (same_interface name name) (is_among name names) ((same_interface-Decides name name).1 refl)),
  subst (λ (all : List IfaceName). AllByRecursion (λ name. is_among name all ≡ true) names)
      (append_assoc before (name ∷ []) names) (own_references (before ++ name ∷ []) names),
)

-- the references of each controller are its
references_named : (components : List CompDesc) (pre cs : List CtlDesc) (place : ℕ)
    → IsDistinct same_interface (references_of (pre ++ cs)) → length pre ≡ place
    → AllByRecursion (IsNamed components (pre ++ cs)) (at_controllers place cs)
references_named components pre [] place differ long = tt
references_named components pre (c ∷ cs) place differ long =
    let all = pre ++ c ∷ cs in
    let whole : (pre ++ c ∷ []) ++ cs ≡ all = append_assoc pre (c ∷ []) cs in
    let next : length (pre ++ c ∷ []) ≡ place + 1 = omega (arith, length-append pre (c ∷ []), long) in
    let own = all_so (λ (name : IfaceName). is_among name (refs_of c) ≡ true)
    (λ (name : IfaceName). exporter all name ≡ Some place)
    (λ name here. position_after (λ (c : CtlDesc). is_among name (refs_of c)) pre cs c
    (not_before pre cs c name differ here) here ∙ ap (λ (n : ℕ). Some n) long)
    (refs_of c) (own_references [] (refs_of c)) in
    all_append (IsNamed components all)
    (map (λ name. record { called = a_command name; whose = of_controller place }) (refs_of c))
    (at_controllers (place + 1) cs)
    (all_map (IsNamed components all) (λ name. record { called = a_command name; whose = of_controller place })
    (refs_of c) own)
    (subst (λ (each : List CtlDesc). AllByRecursion (IsNamed components each) (at_controllers (place + 1) cs)) whole
    (references_named components (pre ++ c ∷ []) cs (place + 1)
    (subst (λ (each : List CtlDesc). IsDistinct same_interface (references_of each)) (sym whole) differ) next))

-- ---- What is claimed is available

-- a component runs where its lifecycle state is one of the available ones
running_at : (lives : List Life) (k : ℕ) → running lives k ≡ is_available (slice_index_or lives k Unconfigured)
running_at [] zero = refl
running_at [] (suc k) = refl
running_at (life ∷ lives) zero = refl
running_at (life ∷ lives) (suc k) = running_at lives k

-- whichever of two names stands first
claims_turned : (claims : List IfaceName) (name : IfaceName)
    → list_any (λ claim. same_interface claim name) claims ≡ is_among name claims
claims_turned claims name =
    any_same (λ claim. same_interface claim name) (same_interface name) claims
    (all_of _ (λ claim. same_interface-IsEquivalence.symm claim name) claims)

-- who claims an interface names it
claim_named : (controllers : List CtlDesc) (p : ℕ) (name : IfaceName) → claims_at controllers p name ≡ true
    → names_at controllers p name ≡ true
claim_named controllers p name claims =
    let c = controller_at controllers p in
    list_any-append (same_interface name) c.claims c.reads
    ∙ or_left (is_among name c.claims) (is_among name c.reads) (sym (claims_turned c.claims name) ∙ claims)

-- The interface is available where a controller of the set claims it.
abbrev pub IsPresent : Description → List Life → Places → Interface → Type 0
IsPresent d lives set i =
    i.called.is_command ≡ true → (p : ℕ) → set p ≡ true → claims_at d.controllers p i.called.name ≡ true
    → available_in lives set i.whose ≡ true

module _ (d : Description) (lives : List Life) (set : Places) (together : CanRunTogether d lives set) where
  present_so : (name : IfaceName) (whose : Whose) → IsWhose d.components d.controllers name whose → (p : ℕ)
      → set p ≡ true → claims_at d.controllers p name ≡ true
      → available_in lives set whose ≡ true
  present_so name (of_joint component joint) is p member claims =
      running_at lives component
      ∙ sym (ap (λ (o : Option ℕ). option_map_or (λ place. is_available (slice_index_or lives place Unconfigured)) o
      true) is)
      ∙ together.available p name member (claim_named d.controllers p name claims)
  present_so name (of_controller place) is p member claims =
      not-false (set place)
      (sym (ap (λ (o : Option ℕ). option_map_or (λ q. not (set q)) o false) is)
      ∙ together.followed p name member claims)

  -- Of a valid description each interface that a controller of the set claims is available.
  pub claimed_is_present : IsValid d → AllByRecursion (IsPresent d lives set) (interfaces_of d)
  claimed_is_present ok =
      let names = (parts_of_valid d ok).names in
      let each : (i : Interface) → IsNamed d.components d.controllers i
      → IsPresent d lives set i = λ i is command p member claims. present_so i.called.name i.whose is p member claims in
      let states = at_components a_state (λ j. j.states) 0 0 d.components in
      let commands = at_components a_command (λ j. j.commands) 0 0 d.components in
      let references = at_controllers 0 d.controllers in
      all_append (IsPresent d lives set) states (commands ++ references)
      (components_so (IsPresent d lives set) a_state (λ j. j.states) 0 0
      (λ k place name from command. absurd (true≢false (sym command))) d.components)
      (all_append (IsPresent d lives set) commands references
      (all_so (IsNamed d.components d.controllers) (IsPresent d lives set) each commands
      (components_named d.controllers [] d.components 0 0 names.joints refl))
      (all_so (IsNamed d.components d.controllers) (IsPresent d lives set) each references
      (references_named d.components [] d.controllers 0 names.references refl)))

-- ---- In a state

-- where no active controller claims it, an interface has no owner
unclaimed : (described : List CtlDesc) (name : IfaceName) (ls : List Loaded)
    → AllByRecursion (λ l. is_active l ≡ true → claims_name described name l ≡ false) ls
    → find (λ (l : Loaded). is_active l && claims_name described name l) ls ≡ None
unclaimed described name [] none = refl
unclaimed described name (l ∷ ls) none =
    let not_l : (is_active l && claims_name described name l) ≡ false =
    false_from_ne_true (is_active l && claims_name described name l)
    (λ both. let parts = and_parts (is_active l) (claims_name described name l) both in
    true≢false (sym parts.1 ∙ none.0 parts.0)) in
    rw not_l (unclaimed described name ls none.1)

-- an active controller's place is that of an active one
each_active : (all ls : List Loaded) → ((test : Loaded → Bool) → list_any test ls ≡ true → list_any test all ≡ true)
    → AllByRecursion (λ l. is_active l ≡ true → list_any (λ (k : Loaded). is_active k && k.place == l.place) all ≡ true)
    ls
each_active all [] inside = tt
each_active all (l ∷ ls) inside = (
  λ runs. inside (λ (k : Loaded). is_active k && k.place == l.place)
      (or_left (is_active l && l.place == l.place) (list_any (λ (k : Loaded). is_active k && k.place == l.place) ls)
      (rw (runs, eq-eqb l.place l.place refl) refl)),
  each_active all ls (λ test any. inside test (or_right (test l) (list_any test ls) any)),
)

-- who claims an interface by name claims it by its place
claims_so : (cs : List CtlDesc) (p : ℕ) (name : IfaceName)
    → option_map_or (λ c. is_among name c.claims) (slice_get cs p) false ≡ true → claims_at cs p name ≡ true
claims_so [] p name claims = cc
claims_so (c ∷ cs) zero name claims = claims_turned c.claims name ∙ claims
claims_so (c ∷ cs) (suc p) name claims = claims_so cs p name claims

module _ (s : State) (valid : IsValid s.description) (together : CanRunTogether s.description s.lives (active s)) where
  free_case : (i : Interface) (is_command : Bool) → i.called.is_command ≡ is_command
      → IsPresent s.description s.lives (active s) i → available s i ≡ false → owner s i ≡ None
  free_case i false is present gone = rw is refl
  free_case i true is present gone =
      let described = s.description.controllers in
      let name = i.called.name in
      let none : AllByRecursion (λ l. is_active l ≡ true → claims_name described name l ≡ false) s.loaded =
      all_so (λ (l : Loaded). is_active l ≡ true → active s l.place ≡ true)
      (λ (l : Loaded). is_active l ≡ true → claims_name described name l ≡ false)
      (λ l there runs. false_from_ne_true (claims_name described name l) (λ claims.
      true≢false (sym (present is l.place (there runs) (claims_so described l.place name claims)) ∙ gone)))
      s.loaded (each_active s.loaded s.loaded (λ test any. any)) in
      rw (is, unclaimed described name s.loaded none) refl

  -- Where the active controllers can run together, what is not available has no owner.
  pub owned_is_available : map (λ (v : InterfaceValue). v.interface) s.values ≡ interfaces_of s.description
      → AllByRecursion (λ v. available s v.interface ≡ false → owner s v.interface ≡ None) s.values
  owned_is_available described =
      all_map_back (λ i. available s i ≡ false → owner s i ≡ None) (λ (v : InterfaceValue). v.interface) s.values
      (subst (AllByRecursion (λ i. available s i ≡ false → owner s i ≡ None)) (sym described)
      (all_so (IsPresent s.description s.lives (active s)) (λ (i : Interface). available s i ≡ false → owner s i ≡ None)
      (λ i present. free_case i i.called.is_command refl present) (interfaces_of s.description)
      (claimed_is_present s.description s.lives (active s) together valid)))

-- ---- Of one controller

-- what holds of all holds at a place
at_place : {A : Type 0} (P : A → Type 0) (xs : List A) (k : ℕ) (d : A) → AllByRecursion P xs → k < length xs
    → P (slice_index_or xs k d)
at_place P [] k d all within = absurd (omega (arith, within))
at_place P (x ∷ xs) zero d all within = all.0
at_place P (x ∷ xs) (suc k) d all within = at_place P xs k d all.1 (omega (arith, within))

-- what holds of each number that is found holds of all that are
all_found : {A : Type 0} (P : ℕ → Type 0) (f : A → Option ℕ) (xs : List A)
    → AllByRecursion (λ x. (k : ℕ) → f x ≡ Some k → P k) xs → AllByRecursion P (filter_map f xs)
all_found P f [] each = tt
all_found P f (x ∷ xs) each = by_case (f x) refl (all_found P f xs each.1)
  where
    by_case : (o : Option ℕ) → f x ≡ o → AllByRecursion P (filter_map f xs) → AllByRecursion P (filter_map f (x ∷ xs))
    by_case None is others = rw is others
    by_case (Some k) is others = rw is (each.0 k is, others)

-- whether an interface is available is told by its place
there_at : (s : State) (vs : List InterfaceValue) (k : ℕ) (d : Interface)
    → k < length (map (λ (v : InterfaceValue). v.interface) vs)
    → is_there_at s vs k ≡ available s (slice_index_or (map (λ (v : InterfaceValue). v.interface) vs) k d)
there_at s [] k d within = absurd (omega (arith, within))
there_at s (v ∷ vs) zero d within = refl
there_at s (v ∷ vs) (suc k) d within = there_at s vs k d (omega (arith, within))

module _ (s : State) (valid : IsValid s.description) (together : CanRunTogether s.description s.lives (active s))
    (vs : List InterfaceValue)
    (described : map (λ (v : InterfaceValue). v.interface) vs ≡ interfaces_of s.description) (p : ℕ)
    (runs : active s p ≡ true) where
  -- an interface that is found by the name of a claim
  claim_there : (name : IfaceName) (k : ℕ) → claims_at s.description.controllers p name ≡ true
      → command_place s.description name ≡ Some k → is_there_at s vs k ≡ true
  claim_there name k claims is =
      let d : Interface = record { called = a_command name; whose = of_controller 0 } in
      let all = interfaces_of s.description in
      let found = position-Some (λ (i : Interface). is_command_named name i.called) all k d is in
      let i : Interface = slice_index_or all k d in
      let parts = and_parts i.called.is_command (same_interface i.called.name name) found.1 in
      let named : i.called.name ≡ name = (same_interface-Decides i.called.name name).0 parts.1 in
      let present : IsPresent s.description s.lives (active s) i =
      at_place (IsPresent s.description s.lives (active s)) all k d
      (claimed_is_present s.description s.lives (active s) together valid) found.0 in
      let here : k < length (map (λ (v : InterfaceValue). v.interface) vs) = rw described found.0 in
      there_at s vs k d here ∙ ap (λ (is : List Interface). available s (slice_index_or is k d)) described
      ∙ present parts.0 p runs
      (subst (λ (n : IfaceName). claims_at s.description.controllers p n ≡ true) (sym named) claims)

  -- What an active controller claims is there, at each of the places of its claims.
  pub claims_are_there : AllByRecursion (λ k. is_there_at s vs k ≡ true)
      (filter_map (command_place s.description) (controller_at s.description.controllers p).claims)
  claims_are_there =
      let claims = (controller_at s.description.controllers p).claims in
      all_found (λ k. is_there_at s vs k ≡ true) (command_place s.description) claims
      (all_so (λ (name : IfaceName). is_among name claims ≡ true)
      (λ (name : IfaceName). (k : ℕ) → command_place s.description name ≡ Some k → is_there_at s vs k ≡ true)
      (λ name among k is. claim_there name k (claims_turned claims name ∙ among) is) claims (own_references [] claims))
