-- Components that are read one after the other, each into its own places of the board, are read all at once.
use Rattle.std.proofs.Common.{◌≡◌, ℕ, zero, suc, ◌+◌, ◌<◌, ◌≤◌, Bool, true, false, List, [], ◌∷◌, ◌++◌}
use Rattle.std.proofs.Common.{length, map, refl, sym, ap, ap₂, ◌∙◌, arith, append_assoc, length-append}
use Rattle.std.specs.Prelude.{slice_get, flat_map, if◌then◌else◌, Option}
use Rattle.std.specs.List.{AllByRecursion}
use Rattle.std.proofs.lemmas.List.{map-append, length-map}
use Rattle.std.proofs.lemmas.Simd.{map-map}
use Rattle.cm_model.proofs.InterfaceLemmas.{all_map_back}
use Rattle.sequence.proofs.ListLemmas.{all_append}
use Rattle.fixed_num.specs.declared.value.BodyState.{BodyState}
use Rattle.fixed_num.specs.declared.value.Value.{Value}
use Rattle.iface_names.specs.declared.interface.IfaceName.{IfaceName}
use Rattle.iface_names.specs.declared.interface.IfaceName.TheVariants.{Joint}
use Rattle.iface_names.specs.declared.kind.Kind.{Kind}
use Rattle.cm_document.specs.Places.{Called, Interface, a_state, of_joint, at_joint, at_joints, at_components}
use Rattle.cm_document.specs.declared.description.CompDesc.{CompDesc}
use Rattle.cm_document.specs.declared.description.JointDesc.{JointDesc}
use Rattle.cm_model.specs.Components.{measured_at, measured_states, state_interfaces, interfaces_from}
use Rattle.cm_model.specs.Values.{InterfaceValue, is_state_of, shown, read_of}
use Rattle.loan_board.specs.declared.board.Loan.{Loan}
use Rattle.loan_board.specs.Loans.{set, with_loan}
use Rattle.cm_model.specs.Components.{read_succeeds}
use Rattle.cm_hardware.specs.Wiring.{Mounted, loan_of, with_values, after_reads_of}

-- ---- Lists

-- what stands before the end of the first list, and what stands after it
nth_left : {A : Type 0} (xs ys : List A) (k : ℕ) → k < length xs → slice_get (xs ++ ys) k ≡ slice_get xs k
nth_left [] ys k less = absurd (omega (arith, less))
nth_left (x ∷ xs) ys zero less = refl
nth_left (x ∷ xs) ys (suc k) less = nth_left xs ys k (omega (arith, less))

nth_right : {A : Type 0} (xs ys : List A) (k : ℕ) → slice_get (xs ++ ys) (length xs + k) ≡ slice_get ys k
nth_right [] ys k = let e : 0 + k ≡ k = omega arith in ap (slice_get ys) e
nth_right (x ∷ xs) ys k =
    let e : suc (length xs) + k ≡ suc (length xs + k) = omega arith in
    ap (slice_get (x ∷ xs ++ ys)) e ∙ nth_right xs ys k

-- ---- One component's places

-- an interface that holds another value
abbrev holding : (Interface → Value) → InterfaceValue → InterfaceValue
holding value v = record v { value = value v.interface }

module _ (own : Interface → Option ℕ) (there : Interface → Bool) where
  abbrev kept : List InterfaceValue → List Loan
  kept vs = map (loan_of own there) vs

  -- the place after the first ones is set
  set_next : (pre rest : List InterfaceValue) (v : InterfaceValue) (x : Value)
      → with_loan (kept (pre ++ v ∷ rest)) (length pre) (set x) ≡ kept (pre ++ record v { value = x } ∷ rest)
  set_next [] rest v x = refl
  set_next (p ∷ pre) rest v x = ap (λ l. loan_of own there p ∷ l) (set_next pre rest v x)

  -- the places of these in the middle are set, one after the other
  set_middle : (value : Interface → Value) (pre mid rest : List InterfaceValue)
      → with_values (kept (pre ++ (mid ++ rest))) (length pre) (map (λ (v : InterfaceValue). value v.interface) mid)
      ≡ kept (pre ++ (map (holding value) mid ++ rest))
  set_middle value pre [] rest = refl
  set_middle value pre (v ∷ mid) rest =
      let w : InterfaceValue = holding value v in
      let first : with_loan (kept (pre ++ v ∷ (mid ++ rest))) (length pre) (set (value v.interface))
      ≡ kept ((pre ++ w ∷ []) ++ (mid ++ rest)) =
      set_next pre (mid ++ rest) v (value v.interface) ∙ ap kept (sym (append_assoc pre (w ∷ []) (mid ++ rest))) in
      let next : length pre + 1 ≡ length (pre ++ w ∷ []) = omega (arith, length-append pre (w ∷ [])) in
      let others = map (λ (u : InterfaceValue). value u.interface) mid in
      ap₂ (λ loans at. with_values loans at others) first next
      ∙ set_middle value (pre ++ w ∷ []) mid rest
      ∙ ap kept (append_assoc pre (w ∷ []) (map (holding value) mid ++ rest))

-- ---- What a component's state interfaces measure

-- of a part of all bodies
measured_of_part : (before bodies after : List BodyState) (joint : ℕ) (kind : Kind) → joint < length bodies
    → measured_at (before ++ (bodies ++ after)) (record { joint = length before + joint; kind = kind })
    ≡ measured_at bodies (record { joint = joint; kind = kind })
measured_of_part before bodies after joint kind less =
    rw (nth_right before (bodies ++ after) joint, nth_left bodies after joint less) refl

-- what an interface of these bodies shows
abbrev shown_of : List BodyState → Interface → Value
shown_of bodies i = shown bodies i.called.name i.whose

-- so what the interfaces of a joint measure
measured_kinds : (before bodies after : List BodyState) (component joint : ℕ) (name : List ℕ) → joint < length bodies
    → (kinds : List Kind)
    → map (measured_at bodies) (map (λ kind. record { joint = joint; kind = kind }) kinds)
    ≡ map (shown_of (before ++ (bodies ++ after)))
    (map (λ kind. record { called = a_state (Joint name kind); whose = of_joint component (length before + joint) })
    kinds)
measured_kinds before bodies after component joint name less [] = refl
measured_kinds before bodies after component joint name less (kind ∷ kinds) =
    ap₂ (λ v vs. v ∷ vs) (sym (measured_of_part before bodies after joint kind less))
    (measured_kinds before bodies after component joint name less kinds)

-- and those of joints
measured_joints : (before bodies after : List BodyState) (component joint place : ℕ) (js : List JointDesc)
    → place ≡ length before + joint → joint + length js ≤ length bodies
    → map (measured_at bodies) (interfaces_from (λ j. j.states) joint js)
    ≡ map (shown_of (before ++ (bodies ++ after))) (at_joints a_state (λ j. j.states) component place js)
measured_joints before bodies after component joint place [] is fits = refl
measured_joints before bodies after component joint place (j ∷ js) is fits =
    map-append (measured_at bodies) (map (λ kind. record { joint = joint; kind = kind }) j.states)
    (interfaces_from (λ j. j.states) (joint + 1) js)
    ∙ ap₂ (λ xs ys. xs ++ ys)
    (rw is (measured_kinds before bodies after component joint j.name (omega (arith, fits)) j.states))
    (measured_joints before bodies after component (joint + 1) (place + 1) js (omega (arith, is)) (omega (arith, fits)))
    ∙ sym (map-append (shown_of (before ++ (bodies ++ after))) (at_joint a_state (λ j. j.states) component place j)
    (at_joints a_state (λ j. j.states) component (place + 1) js))

-- ---- Which interfaces are read

module _ (test : ℕ → Bool) where
  -- a state interface of a joint is read where its component is
  of_kinds : (component joint : ℕ) (name : List ℕ) (kinds : List Kind)
      → AllByRecursion (λ (i : Interface). is_state_of test i ≡ test component)
      (map (λ kind. record { called = a_state (Joint name kind); whose = of_joint component joint }) kinds)
  of_kinds component joint name [] = tt
  of_kinds component joint name (kind ∷ kinds) = (refl, of_kinds component joint name kinds)

  of_joints : (component place : ℕ) (js : List JointDesc)
      → AllByRecursion (λ (i : Interface). is_state_of test i ≡ test component)
      (at_joints a_state (λ j. j.states) component place js)
  of_joints component place [] = tt
  of_joints component place (j ∷ js) =
      all_append _ (at_joint a_state (λ j. j.states) component place j) _ (of_kinds component place j.name j.states)
      (of_joints component (place + 1) js)

  -- where they are, each of them holds what it shows
  read_all : (bodies : List BodyState) (here : Bool) (vs : List InterfaceValue) → here ≡ true
      → AllByRecursion (λ (v : InterfaceValue). is_state_of test v.interface ≡ here) vs
      → map (read_of test bodies) vs ≡ map (holding (shown_of bodies)) vs
  read_all bodies here [] is all = refl
  read_all bodies here (v ∷ vs) is all = ap₂ (λ w ws. w ∷ ws) (rw (all.0 ∙ is) refl) (read_all bodies here vs is all.1)

  -- and where they are not, nothing changes
  read_none : (bodies : List BodyState) (here : Bool) (vs : List InterfaceValue) → here ≡ false
      → AllByRecursion (λ (v : InterfaceValue). is_state_of test v.interface ≡ here) vs
      → map (read_of test bodies) vs ≡ vs
  read_none bodies here [] is all = refl
  read_none bodies here (v ∷ vs) is all =
      ap₂ (λ w ws. w ∷ ws) (rw (all.0 ∙ is) refl) (read_none bodies here vs is all.1)

-- ---- Lists of interfaces

-- a list whose map is two lists is two lists
pub record Parted {A B : Type 0} (f : A → B) (xs : List A) (front back : List B) : Type 0 where
  pub first : List A
  pub rest : List A
  pub whole : xs ≡ first ++ rest
  pub front_is : map f first ≡ front
  pub back_is : map f rest ≡ back

pub parted : {A B : Type 0} (f : A → B) (xs : List A) (front back : List B) → map f xs ≡ front ++ back
    → Parted f xs front back
parted f xs [] back is = record { first = []; rest = xs; whole = refl; front_is = refl; back_is = is }
parted f [] (b ∷ front) back is = cc
parted f (x ∷ xs) (b ∷ front) back is =
    let tail : map f xs ≡ front ++ back = cc in
    let p = parted f xs front back tail in
    record { first = x ∷ p.first; rest = p.rest; whole = ap (λ l. x ∷ l) p.whole; front_is = cc; back_is = p.back_is }

-- a component has as many interfaces as stand at its joints
pub interfaces_count : (call : IfaceName → Called) (kinds : JointDesc → List Kind) (component joint place : ℕ)
    (js : List JointDesc)
    → length (interfaces_from kinds joint js) ≡ length (at_joints call kinds component place js)
interfaces_count call kinds component joint place [] = refl
interfaces_count call kinds component joint place (j ∷ js) =
    length-append (map (λ kind. record { joint = joint; kind = kind }) (kinds j)) (interfaces_from kinds (joint + 1) js)
    ∙ ap₂ (λ m n. m + n)
    (length-map (kinds j) (λ kind. record { joint = joint; kind = kind })
    ∙ sym (length-map (kinds j)
    (λ kind. record { called = call (Joint j.name kind); whose = of_joint component place })))
    (interfaces_count call kinds component (joint + 1) (place + 1) js)
    ∙ sym (length-append (at_joint call kinds component place j) (at_joints call kinds component (place + 1) js))

-- ---- All components

-- the test of places is what holds of the component at each, from this one on
abbrev pub Agrees : (ℕ → Bool) → (Mounted → Bool) → ℕ → List Mounted → Type 0
Agrees test holds component [] = Unit {0}
Agrees test holds component (m ∷ ms) = (test component ≡ holds m) × Agrees test holds (component + 1) ms

-- its read succeeds in this cycle
abbrev pub succeeds_read : ℕ → Mounted → Bool
succeeds_read n m = read_succeeds m.hardware.description m.hardware.life n

-- what the induction rests on: the interfaces that are left are the states of the components that are left, and others
-- that are not read
pub record Left (test : ℕ → Bool) (n component : ℕ) (before : List BodyState) (ms : List Mounted)
    (vs : List InterfaceValue) (others : List Interface) : Type 0 where
  pub agrees : Agrees test (succeeds_read n) component ms
  pub bodies : AllByRecursion (λ (m : Mounted). length m.hardware.bodies ≡ length m.hardware.description.joints) ms
  pub interfaces : map (λ (v : InterfaceValue). v.interface) vs
      ≡ at_components a_state (λ j. j.states) component (length before)
      (map (λ (m : Mounted). m.hardware.description) ms) ++ others
  pub unread : AllByRecursion (λ (i : Interface). is_state_of test i ≡ false) others

module _ (own : Interface → Option ℕ) (there : Interface → Bool) (test : ℕ → Bool) (n : ℕ) where
  -- the places of one component, where its read succeeds or not
  one_read : (succeeds : Bool) (component : ℕ) (before bodies after : List BodyState) (c : CompDesc)
      (pre mid rest : List InterfaceValue)
      → test component ≡ succeeds → length c.joints ≤ length bodies
      → map (λ (v : InterfaceValue). v.interface) mid
      ≡ at_joints a_state (λ j. j.states) component (length before) c.joints
      → (if succeeds then with_values (kept own there (pre ++ (mid ++ rest))) (length pre) (measured_states c bodies)
      else kept own there (pre ++ (mid ++ rest)))
      ≡ kept own there (pre ++ (map (read_of test (before ++ (bodies ++ after))) mid ++ rest))
  one_read true component before bodies after c pre mid rest is fits at =
      let all = before ++ (bodies ++ after) in
      let here : AllByRecursion (λ (v : InterfaceValue). is_state_of test v.interface ≡ test component) mid =
      all_map_back _ (λ v. v.interface) mid (rw at (of_joints test component (length before) c.joints)) in
      let measured : measured_states c bodies ≡ map (λ (v : InterfaceValue). shown_of all v.interface) mid =
      measured_joints before bodies after component 0 (length before) c.joints (omega arith) (omega (arith, fits))
      ∙ ap (map (shown_of all)) (sym at) ∙ map-map (shown_of all) (λ v. v.interface) mid in
      rw (measured, read_all test all (test component) mid is here) (set_middle own there (shown_of all) pre mid rest)
  one_read false component before bodies after c pre mid rest is fits at =
      let all = before ++ (bodies ++ after) in
      let here : AllByRecursion (λ (v : InterfaceValue). is_state_of test v.interface ≡ test component) mid =
      all_map_back _ (λ v. v.interface) mid (rw at (of_joints test component (length before) c.joints)) in
      rw (read_none test all (test component) mid is here) refl

  -- all at once
  pub reads_at_once : (component : ℕ) (before : List BodyState) (ms : List Mounted) (pre vs : List InterfaceValue)
      (others : List Interface) → Left test n component before ms vs others
      → after_reads_of n (length pre) (kept own there (pre ++ vs)) ms
      ≡ kept own there (pre ++ map (read_of test (before ++ flat_map (λ (m : Mounted). m.hardware.bodies) ms)) vs)
  reads_at_once component before [] pre vs others left =
      ap (λ l. kept own there (pre ++ l))
      (sym (read_none test _ false vs refl (all_map_back _ (λ v. v.interface) vs (rw left.interfaces left.unread))))
  reads_at_once component before (m ∷ ms) pre vs others left =
      let h = m.hardware in
      let c = h.description in
      let after = flat_map (λ (m : Mounted). m.hardware.bodies) ms in
      let all = before ++ (h.bodies ++ after) in
      let p = parted (λ (v : InterfaceValue). v.interface) vs
      (at_joints a_state (λ j. j.states) component (length before) c.joints)
      (at_components a_state (λ j. j.states) (component + 1) (length before + length c.joints)
      (map (λ (m : Mounted). m.hardware.description) ms) ++ others)
      (left.interfaces ∙ append_assoc _ _ others) in
      let one = one_read (read_succeeds c h.life n) component before h.bodies after c pre p.first p.rest left.agrees.0
      (omega (arith, left.bodies.0)) p.front_is in
      let pre' = pre ++ map (read_of test all) p.first in
      let next : Left test n (component + 1) (before ++ h.bodies) ms p.rest others = record {
        agrees = left.agrees.1;
        bodies = left.bodies.1;
        interfaces =
            p.back_is ∙ ap
            (λ place. at_components a_state (λ j. j.states) (component + 1) place
            (map (λ (m : Mounted). m.hardware.description) ms) ++ others)
            (omega (arith, left.bodies.0, length-append before h.bodies));
        unread = left.unread;
      } in
      let places : length pre + length (state_interfaces c) ≡ length pre' =
      omega (
        arith,
        length-append pre (map (read_of test all) p.first),
        length-map p.first (read_of test all),
        sym (length-map p.first (λ (v : InterfaceValue). v.interface)) ∙ ap length p.front_is,
        interfaces_count a_state (λ j. j.states) component 0 (length before) c.joints,
      ) in
      let step = reads_at_once (component + 1) (before ++ h.bodies) ms pre' p.rest others next in
      let front : pre ++ (map (read_of test all) p.first ++ p.rest) ≡ pre' ++ p.rest =
      sym (append_assoc pre (map (read_of test all) p.first) p.rest) in
      let bodies : (before ++ h.bodies) ++ after ≡ all = append_assoc before h.bodies after in
      let back : pre' ++ map (read_of test all) p.rest ≡ pre ++ map (read_of test all) (p.first ++ p.rest) =
      append_assoc pre (map (read_of test all) p.first) (map (read_of test all) p.rest)
      ∙ ap (λ l. pre ++ l) (sym (map-append (read_of test all) p.first p.rest)) in
      rw (p.whole, one, front, places) (step ∙ rw bodies (ap (kept own there) back))
