-- What the board holds for the command interfaces of components, one component after the other, is what these
-- interfaces hold.
use Rattle.std.proofs.Common.{◌≡◌, ℕ, ◌+◌, ◌<◌, ◌≤◌, Bool, true, false, List, [], ◌∷◌, ◌++◌, map, length, Option}
use Rattle.std.proofs.Common.{Some, None, refl, sym, subst, ap, ap₂, ◌∙◌, arith, append_assoc, length-append}
use Rattle.std.specs.Prelude.{◌==◌, ◌&&◌, if◌then◌else◌, filter, option_map, slice_get, is_some}
use Rattle.std.specs.List.{AllByRecursion, range_with_len}
use Rattle.std.specs.Option.{option_map_or}
use Rattle.std.proofs.lemmas.Bool.{eq-eqb, ne_eqb}
use Rattle.std.proofs.lemmas.List.{length-map}
use Rattle.std.proofs.lemmas.Option.{slice_get-map}
use Rattle.cm_document.proofs.DistinctLemmas.{all_so}
use Rattle.sequence.proofs.ListLemmas.{all_append}
use Rattle.fixed_num.specs.declared.value.Value.{Value}
use Rattle.iface_names.specs.declared.interface.IfaceName.{IfaceName}
use Rattle.iface_names.specs.declared.interface.IfaceName.TheVariants.{Joint}
use Rattle.iface_names.specs.declared.kind.Kind.{Kind}
use Rattle.cm_document.specs.Links.{refs_of}
use Rattle.cm_document.specs.Places.{Called, Interface, a_state, a_command, of_joint, of_controller}
use Rattle.cm_document.specs.Places.{at_joint, at_joints, at_components, at_controllers, interfaces_of}
use Rattle.cm_document.specs.declared.description.CompDesc.{CompDesc}
use Rattle.cm_document.specs.declared.description.CtlDesc.{CtlDesc}
use Rattle.cm_document.specs.declared.description.Description.{Description}
use Rattle.cm_document.specs.declared.description.JointDesc.{JointDesc}
use Rattle.cm_model.specs.Components.{claimed_by}
use Rattle.cm_model.specs.Cycle.{commands_at, claims_in}
use Rattle.cm_model.specs.State.{State, owner}
use Rattle.cm_model.specs.Values.{InterfaceValue, belongs_to}
use Rattle.cm_model.proofs.InterfaceLemmas.{all_map_back}
use Rattle.loan_board.specs.declared.board.Loan.{Loan}
use Rattle.loan_board.specs.Loans.{loan_at}
use Rattle.cm_hardware.specs.Holding.{AreClaimed}
use Rattle.cm_hardware.specs.Wiring.{Mounted, loan_of, all_states, commands_count, values_at}
use Rattle.cm_hardware.proofs.ReadLemmas.{parted, interfaces_count}
use Rattle.cm_hardware.proofs.StepLemmas.{AreHeld}

-- ---- Which interfaces are a component's commands

-- a command interface of the component at this place
abbrev pub is_command_at : ℕ → Interface → Bool
is_command_at component i = i.called.is_command && belongs_to (λ place. place == component) i.whose

-- none of a component from this place on
abbrev pub IsBefore : ℕ → Interface → Type 0
IsBefore component i = (k : ℕ) → component ≤ k → is_command_at k i ≡ false

-- none of a component before this place
abbrev pub IsFrom : ℕ → Interface → Type 0
IsFrom component i = (k : ℕ) → k < component → is_command_at k i ≡ false

-- a place is itself, and no other
pub same_place : (k : ℕ) → (k == k) ≡ true
same_place k = eq-eqb k k refl

pub other_place : (k n : ℕ) → k < n → (n == k) ≡ false
other_place k n less = ne_eqb n k (λ same. omega (arith, same, less))

pub other_place_after : (k n : ℕ) → n < k → (n == k) ≡ false
other_place_after k n less = ne_eqb n k (λ same. omega (arith, same, less))

-- what is asked of each interface of a joint, a component or components by whose they are
kinds_so : (P : Interface → Type 0) (call : IfaceName → Called) (component place : ℕ) (name : List ℕ)
    → ((kind : Kind) → P (record { called = call (Joint name kind); whose = of_joint component place }))
    → (kinds : List Kind)
    → AllByRecursion P
    (map (λ kind. record { called = call (Joint name kind); whose = of_joint component place }) kinds)
kinds_so P call component place name each [] = tt
kinds_so P call component place name each (kind ∷ kinds) = (each kind, kinds_so P call component place name each kinds)

pub joints_so : (P : Interface → Type 0) (call : IfaceName → Called) (kinds : JointDesc → List Kind)
    (component place : ℕ)
    → ((place : ℕ) (name : IfaceName) → P (record { called = call name; whose = of_joint component place }))
    → (js : List JointDesc) → AllByRecursion P (at_joints call kinds component place js)
joints_so P call kinds component place each [] = tt
joints_so P call kinds component place each (j ∷ js) =
    all_append P (at_joint call kinds component place j) _
    (kinds_so P call component place j.name (λ kind. each place (Joint j.name kind)) (kinds j))
    (joints_so P call kinds component (place + 1) each js)

pub components_so : (P : Interface → Type 0) (call : IfaceName → Called) (kinds : JointDesc → List Kind)
    (component place : ℕ)
    → ((k place : ℕ) (name : IfaceName) → component ≤ k → P (record { called = call name; whose = of_joint k place }))
    → (cs : List CompDesc) → AllByRecursion P (at_components call kinds component place cs)
components_so P call kinds component place each [] = tt
components_so P call kinds component place each (c ∷ cs) =
    all_append P (at_joints call kinds component place c.joints) _
    (joints_so P call kinds component place (λ place name. each component place name (omega arith)) c.joints)
    (components_so P call kinds (component + 1) (place + length c.joints)
    (λ k place name from. each k place name (omega (arith, from))) cs)

pub references_so : (P : Interface → Type 0)
    → ((name : IfaceName) (place : ℕ) → P (record { called = a_command name; whose = of_controller place }))
    → (place : ℕ) (cs : List CtlDesc) → AllByRecursion P (at_controllers place cs)
references_so P each place [] = tt
references_so P each place (c ∷ cs) =
    all_append P (map (λ name. record { called = a_command name; whose = of_controller place }) (refs_of c)) _
    (names_so (refs_of c)) (references_so P each (place + 1) cs)
  where
    names_so : (names : List IfaceName)
        → AllByRecursion P (map (λ name. record { called = a_command name; whose = of_controller place }) names)
    names_so [] = tt
    names_so (name ∷ names) = (each name place, names_so names)

-- ---- Filters

all_true : {A : Type 0} (test : A → Bool) (xs : List A) → AllByRecursion (λ (x : A). test x ≡ true) xs
    → filter test xs ≡ xs
all_true test [] all = refl
all_true test (x ∷ xs) all = rw all.0 (ap (λ l. x ∷ l) (all_true test xs all.1))

all_false : {A : Type 0} (test : A → Bool) (xs : List A) → AllByRecursion (λ (x : A). test x ≡ false) xs
    → filter test xs ≡ []
all_false test [] all = refl
all_false test (x ∷ xs) all = rw all.0 (all_false test xs all.1)

-- of three parts only the middle passes
pub middle_passes : {A : Type 0} (test : A → Bool) (pre mid rest : List A)
    → AllByRecursion (λ (x : A). test x ≡ false) pre → AllByRecursion (λ (x : A). test x ≡ true) mid
    → AllByRecursion (λ (x : A). test x ≡ false) rest → filter test (pre ++ (mid ++ rest)) ≡ mid
middle_passes test [] [] rest before here after = all_false test rest after
middle_passes test [] (x ∷ mid) rest before here after =
    rw here.0 (ap (λ l. x ∷ l) (middle_passes test [] mid rest before here.1 after))
middle_passes test (x ∷ pre) mid rest before here after =
    rw before.0 (middle_passes test pre mid rest before.1 here after)

-- ---- What the board holds

module _ (own : Interface → Option ℕ) (there : Interface → Bool) where
  abbrev kept : List InterfaceValue → List Loan
  kept vs = map (loan_of own there) vs

  value_next : (pre rest : List InterfaceValue) (v : InterfaceValue)
      → (loan_at (kept (pre ++ v ∷ rest)) (length pre)).value ≡ v.value
  value_next [] rest v = refl
  value_next (p ∷ pre) rest v = value_next pre rest v

  values_middle : (pre mid rest : List InterfaceValue)
      → values_at (kept (pre ++ (mid ++ rest))) (length pre) (length mid) ≡ map (λ (v : InterfaceValue). v.value) mid
  values_middle pre [] rest = refl
  values_middle pre (v ∷ mid) rest =
      let whole : pre ++ v ∷ (mid ++ rest) ≡ (pre ++ v ∷ []) ++ (mid ++ rest) =
      sym (append_assoc pre (v ∷ []) (mid ++ rest)) in
      let next : length pre + 1 ≡ length (pre ++ v ∷ []) = omega (arith, length-append pre (v ∷ [])) in
      ap₂ (λ (x : Value) (xs : List Value). x ∷ xs) (value_next pre (mid ++ rest) v)
      (ap₂ (λ (vs : List InterfaceValue) (at : ℕ). values_at (kept vs) at (length mid)) whole next
      ∙ values_middle (pre ++ v ∷ []) mid rest)

  -- what it holds of one component's commands, between others
  held_one : (component place : ℕ) (c : CompDesc) (pre mid rest : List InterfaceValue)
      → map (λ (v : InterfaceValue). v.interface) mid ≡ at_joints a_command (λ j. j.commands) component place c.joints
      → AllByRecursion (λ (v : InterfaceValue). IsBefore component v.interface) pre
      → AllByRecursion (λ (v : InterfaceValue). is_command_at component v.interface ≡ false) rest
      → values_at (kept (pre ++ (mid ++ rest))) (length pre) (length mid)
      ≡ map (λ (v : InterfaceValue). v.value) (commands_at component (pre ++ (mid ++ rest)))
  held_one component place c pre mid rest is before after =
      let here : AllByRecursion (λ (v : InterfaceValue). is_command_at component v.interface ≡ true) mid =
      all_map_back (λ i. is_command_at component i ≡ true) (λ v. v.interface) mid
      (rw is (joints_so (λ i. is_command_at component i ≡ true) a_command (λ j. j.commands) component place
      (λ place name. same_place component) c.joints)) in
      values_middle pre mid rest
      ∙ ap (map (λ (v : InterfaceValue). v.value))
      (sym (middle_passes (λ (v : InterfaceValue). is_command_at component v.interface) pre mid rest
      (all_so (λ (v : InterfaceValue). IsBefore component v.interface)
      (λ (v : InterfaceValue). is_command_at component v.interface ≡ false) (λ v b. b component (omega arith)) pre
      before) here after))

  -- so of all that are left
  held_from : (component place : ℕ) (pre vs : List InterfaceValue) (ms : List Mounted) (others : List Interface)
      → map (λ (v : InterfaceValue). v.interface) vs
      ≡ at_components a_command (λ j. j.commands) component place (map (λ (m : Mounted). m.hardware.description) ms)
      ++ others
      → AllByRecursion (λ (v : InterfaceValue). IsBefore component v.interface) pre
      → AllByRecursion (λ (i : Interface). (k : ℕ) → is_command_at k i ≡ false) others
      → AreHeld (pre ++ vs) (kept (pre ++ vs)) (length pre) component ms
  held_from component place pre vs [] others is before none = tt
  held_from component place pre vs (m ∷ ms) others is before none =
      let c = m.hardware.description in
      let cs = map (λ (m : Mounted). m.hardware.description) ms in
      let back = at_components a_command (λ j. j.commands) (component + 1) (place + length c.joints) cs in
      let p = parted (λ (v : InterfaceValue). v.interface) vs
      (at_joints a_command (λ j. j.commands) component place c.joints) (back ++ others)
      (is ∙ append_assoc _ back others) in
      let count : commands_count m ≡ length p.first =
      interfaces_count a_command (λ j. j.commands) component 0 place c.joints ∙ sym (ap length p.front_is)
      ∙ length-map p.first (λ (v : InterfaceValue). v.interface) in
      let later : AllByRecursion (λ (i : Interface). is_command_at component i ≡ false) (back ++ others) =
      all_append (λ (i : Interface). is_command_at component i ≡ false) back others
      (components_so (λ i. is_command_at component i ≡ false) a_command (λ j. j.commands) (component + 1)
      (place + length c.joints) (λ k place name from. other_place component k (omega (arith, from))) cs)
      (all_so (λ (i : Interface). (k : ℕ) → is_command_at k i ≡ false)
      (λ (i : Interface). is_command_at component i ≡ false) (λ i n. n component) others none) in
      let after : AllByRecursion (λ (v : InterfaceValue). is_command_at component v.interface ≡ false) p.rest =
      all_map_back (λ i. is_command_at component i ≡ false) (λ v. v.interface) p.rest (rw p.back_is later) in
      let one = held_one component place c pre p.first p.rest p.front_is before after in
      let pre' = pre ++ p.first in
      let own_ones : AllByRecursion (λ (v : InterfaceValue). IsBefore (component + 1) v.interface) p.first =
      all_map_back (IsBefore (component + 1)) (λ v. v.interface) p.first
      (rw p.front_is
      (joints_so (IsBefore (component + 1)) a_command (λ j. j.commands) component place
      (λ place name k from. other_place_after k component (omega (arith, from))) c.joints)) in
      let earlier : AllByRecursion (λ (v : InterfaceValue). IsBefore (component + 1) v.interface) pre =
      all_so (λ (v : InterfaceValue). IsBefore component v.interface)
      (λ (v : InterfaceValue). IsBefore (component + 1) v.interface) (λ v b k from. b k (omega (arith, from))) pre
      before in
      let rest = held_from (component + 1) (place + length c.joints) pre' p.rest ms others p.back_is
      (all_append (λ (v : InterfaceValue). IsBefore (component + 1) v.interface) pre p.first earlier own_ones) none in
      let all = pre ++ (p.first ++ p.rest) in
      let front : all ≡ pre' ++ p.rest = sym (append_assoc pre p.first p.rest) in
      let at : length pre' ≡ length pre + commands_count m =
      length-append pre p.first ∙ ap (λ (n : ℕ). length pre + n) (sym count) in
      let further : AreHeld all (kept all) (length pre + commands_count m) (component + 1) ms =
      subst (λ (n : ℕ). AreHeld all (kept all) n (component + 1) ms) at (subst
      (λ (ws : List InterfaceValue). AreHeld ws (kept ws) (length pre') (component + 1) ms) (sym front) rest) in
      let here : values_at (kept all) (length pre) (commands_count m)
      ≡ map (λ (v : InterfaceValue). v.value) (commands_at component all) =
      ap (values_at (kept all) (length pre)) count ∙ one in
      subst (λ (ws : List InterfaceValue). AreHeld (pre ++ ws) (kept (pre ++ ws)) (length pre) component (m ∷ ms))
      (sym p.whole) (here, further)

  -- so many state interfaces stand before the commands
  pub states_stand : (component place : ℕ) (ms : List Mounted)
      → length (at_components a_state (λ j. j.states) component place
      (map (λ (m : Mounted). m.hardware.description) ms)) ≡ all_states ms
  states_stand component place [] = refl
  states_stand component place (m ∷ ms) =
      let c = m.hardware.description in
      length-append (at_joints a_state (λ j. j.states) component place c.joints)
      (at_components a_state (λ j. j.states) (component + 1) (place + length c.joints)
      (map (λ (m : Mounted). m.hardware.description) ms))
      ∙ ap₂ (λ (i j : ℕ). i + j) (sym (interfaces_count a_state (λ j. j.states) component 0 place c.joints))
      (states_stand (component + 1) (place + length c.joints) ms)

  -- What the board holds is what the command interfaces of a state's components hold.
  pub held_all : (d : Description) (vs : List InterfaceValue) (ms : List Mounted)
      → d.components ≡ map (λ (m : Mounted). m.hardware.description) ms
      → map (λ (v : InterfaceValue). v.interface) vs ≡ interfaces_of d → AreHeld vs (kept vs) (all_states ms) 0 ms
  held_all d vs ms components is =
      let states = at_components a_state (λ j. j.states) 0 0 d.components in
      let p = parted (λ (v : InterfaceValue). v.interface) vs states
      (at_components a_command (λ j. j.commands) 0 0 d.components ++ at_controllers 0 d.controllers) is in
      let at : length p.first ≡ all_states ms =
      sym (length-map p.first (λ (v : InterfaceValue). v.interface))
      ∙ ap length (p.front_is ∙ ap (at_components a_state (λ j. j.states) 0 0) components) ∙ states_stand 0 0 ms in
      let before : AllByRecursion (λ (v : InterfaceValue). IsBefore 0 v.interface) p.first =
      all_map_back (IsBefore 0) (λ v. v.interface) p.first
      (rw p.front_is
      (components_so (IsBefore 0) a_state (λ j. j.states) 0 0 (λ k place name from n least. refl) d.components)) in
      let none : AllByRecursion (λ (i : Interface). (k : ℕ) → is_command_at k i ≡ false)
      (at_controllers 0 d.controllers) =
      references_so (λ (i : Interface). (k : ℕ) → is_command_at k i ≡ false) (λ name place k. refl) 0 d.controllers in
      rw (p.whole, sym at)
      (held_from 0 0 p.first p.rest ms (at_controllers 0 d.controllers)
      (p.back_is ∙ ap
      (λ (cs : List CompDesc). at_components a_command (λ j. j.commands) 0 0 cs ++ at_controllers 0 d.controllers)
      components) before none)

-- ---- Claims go by interfaces, whatever these hold

filter_mapped : {A B : Type 0} (f : A → B) (test : B → Bool) (xs : List A)
    → map f (filter (λ x. test (f x)) xs) ≡ filter test (map f xs)
filter_mapped f test [] = refl
filter_mapped {B = B} f test (x ∷ xs) = by_test (test (f x)) (filter_mapped f test xs)
  where
    by_test : (b : Bool) → map f (filter (λ x. test (f x)) xs) ≡ filter test (map f xs)
        → map f (if b then x ∷ filter (λ x. test (f x)) xs else filter (λ x. test (f x)) xs)
        ≡ (if b then f x ∷ filter test (map f xs) else filter test (map f xs))
    by_test true rest = ap (λ (l : List B). f x ∷ l) rest
    by_test false rest = rest

filter_alike : (one other : ℕ → Bool) (ks : List ℕ) → ((k : ℕ) → one k ≡ other k) → filter one ks ≡ filter other ks
filter_alike one other [] same = refl
filter_alike one other (k ∷ ks) same = by_test (other k) refl (filter_alike one other ks same)
  where
    by_test : (b : Bool) → other k ≡ b → filter one ks ≡ filter other ks → filter one (k ∷ ks) ≡ filter other (k ∷ ks)
    by_test true is rest = rw (same k ∙ is, is) (ap (λ (l : List ℕ). k ∷ l) rest)
    by_test false is rest = rw (same k ∙ is, is) rest

mapped_or : {A B : Type 0} (f : A → B) (test : B → Bool) (o : Option A)
    → option_map_or test (option_map f o) false ≡ option_map_or (λ x. test (f x)) o false
mapped_or f test None = refl
mapped_or f test (Some x) = refl

-- the claims among command interfaces
pub claims_alike : (own own' : Interface → Option ℕ) (commands commands' : List InterfaceValue)
    → ((i : Interface) → own i ≡ own' i)
    → map (λ (v : InterfaceValue). v.interface) commands ≡ map (λ (v : InterfaceValue). v.interface) commands'
    → filter (λ place. option_map_or (λ (v : InterfaceValue). is_some (own v.interface)) (slice_get commands place)
    false) (range_with_len 0 (length commands))
    ≡ filter (λ place. option_map_or (λ (v : InterfaceValue). is_some (own' v.interface)) (slice_get commands' place)
    false) (range_with_len 0 (length commands'))
claims_alike own own' commands commands' owned same =
    let long : length commands ≡ length commands' =
    sym (length-map commands (λ (v : InterfaceValue). v.interface)) ∙ ap length same
    ∙ length-map commands' (λ (v : InterfaceValue). v.interface) in
    let by_name : (f : Interface → Option ℕ) (vs : List InterfaceValue) (k : ℕ)
    → option_map_or (λ (v : InterfaceValue). is_some (f v.interface)) (slice_get vs k) false
    ≡ option_map_or (λ i. is_some (f i)) (slice_get (map (λ (v : InterfaceValue). v.interface) vs) k) false =
    λ f vs k. sym
    (ap (λ (o : Option Interface). option_map_or (λ i. is_some (f i)) o false)
    (slice_get-map (λ (v : InterfaceValue). v.interface) vs k)
    ∙ mapped_or (λ (v : InterfaceValue). v.interface) (λ i. is_some (f i)) (slice_get vs k)) in
    let owns : (o : Option Interface)
    → option_map_or (λ i. is_some (own i)) o false ≡ option_map_or (λ i. is_some (own' i)) o false = owned_alike in
    rw long (filter_alike _ _ (range_with_len 0 (length commands'))
    (λ k. by_name own commands k
    ∙ ap (λ (is : List Interface). option_map_or (λ i. is_some (own i)) (slice_get is k) false) same
    ∙ owns (slice_get (map (λ (v : InterfaceValue). v.interface) commands') k) ∙ sym (by_name own' commands' k)))
  where
    owned_alike : (o : Option Interface)
        → option_map_or (λ i. is_some (own i)) o false ≡ option_map_or (λ i. is_some (own' i)) o false
    owned_alike None = refl
    owned_alike (Some i) = ap (λ (o : Option ℕ). is_some o) (owned i)

-- the commands of a component
pub commands_alike : (component : ℕ) (vs vs' : List InterfaceValue)
    → map (λ (v : InterfaceValue). v.interface) vs ≡ map (λ (v : InterfaceValue). v.interface) vs'
    → map (λ (v : InterfaceValue). v.interface) (commands_at component vs)
    ≡ map (λ (v : InterfaceValue). v.interface) (commands_at component vs')
commands_alike component vs vs' same =
    filter_mapped (λ (v : InterfaceValue). v.interface) (is_command_at component) vs
    ∙ ap (filter (is_command_at component)) same
    ∙ sym (filter_mapped (λ (v : InterfaceValue). v.interface) (is_command_at component) vs')

-- Components go by the claims of one state as by those of another that has the same owners and interfaces.
pub claimed_alike : (s t : State) (component : ℕ) (ms : List Mounted) → ((i : Interface) → owner s i ≡ owner t i)
    → map (λ (v : InterfaceValue). v.interface) s.values ≡ map (λ (v : InterfaceValue). v.interface) t.values
    → AreClaimed s component ms → AreClaimed t component ms
claimed_alike s t component [] owned same claims = tt
claimed_alike s t component (m ∷ ms) owned same claims =
    let alike : claims_in s (commands_at component s.values) ≡ claims_in t (commands_at component t.values) =
    claims_alike (owner s) (owner t) (commands_at component s.values) (commands_at component t.values) owned
    (commands_alike component s.values t.values same) in
    (claims.0 ∙ ap (claimed_by m.hardware.description) alike, claimed_alike s t (component + 1) ms owned same claims.1)
