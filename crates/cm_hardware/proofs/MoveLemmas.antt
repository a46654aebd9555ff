-- The board after failures holds what the interfaces of the state hold after the moves of components.
use Rattle.std.proofs.Common.{◌≡◌, ℕ, zero, suc, ◌+◌, Bool, true, false, List, [], ◌∷◌, ◌++◌, map, length, Option, Some}
use Rattle.std.proofs.Common.{None, refl, sym, subst, ap, ap₂, ◌∙◌, arith, append_assoc, length-append, inl, inr}
use Rattle.std.specs.Prelude.{not, ◌&&◌, is_some, slice_get, zip, if◌then◌else◌}
use Rattle.std.specs.List.{AllByRecursion}
use Rattle.std.specs.Option.{option_map_or}
use Rattle.std.proofs.lemmas.Simd.{map-map}
use Rattle.std.proofs.Math.Bool.{and-false}
use Rattle.fixed_num.specs.declared.value.BodyState.{BodyState}
use Rattle.fixed_num.specs.declared.value.Value.{Value}
use Rattle.fixed_num.specs.declared.value.Value.TheVariants.{Unset}
use Rattle.cm_document.specs.Places.{Called, Whose, of_joint, of_controller, Interface}
use Rattle.cm_document.specs.declared.description.CompDesc.{CompDesc}
use Rattle.cm_document.specs.declared.life.Life.{Life}
use Rattle.cm_model.specs.Components.{is_available, read_succeeds, is_listed}
use Rattle.cm_model.specs.State.{available_in}
use Rattle.cm_model.specs.Values.{InterfaceValue, unset, running, belongs_to, is_state_of, shown, read_of, cleared_of}
use Rattle.loan_board.specs.declared.board.Loan.{Loan}
use Rattle.loan_board.specs.Loans.{with_loan}
use Rattle.cm_hardware.specs.Wiring.{AreSound, loan_of, component_of, vacated, changed_where}
use Rattle.cm_hardware.proofs.FailureLemmas.{both_first, both_second}
use Rattle.cm_hardware.proofs.StillLemmas.{if_both}
use Rattle.cm_hardware.proofs.StepLemmas.{Fate}

-- ---- The board, place by place

-- the place after the first ones changes
with_loan_at : (pre loans : List Loan) (loan : Loan) (change : Loan → Loan)
    → with_loan (pre ++ loan ∷ loans) (length pre) change ≡ pre ++ change loan ∷ loans
with_loan_at [] loans loan change = refl
with_loan_at (p ∷ pre) loans loan change = ap (λ (l : List Loan). p ∷ l) (with_loan_at pre loans loan change)

place_changes : (left : Bool) (pre loans : List Loan) (loan next : Loan) (change : Loan → Loan)
    → (if left then change loan else loan) ≡ next
    → (if left then with_loan (pre ++ loan ∷ loans) (length pre) change else pre ++ loan ∷ loans) ≡ pre ++ next ∷ loans
place_changes true pre loans loan next change is =
    with_loan_at pre loans loan change ∙ ap (λ (l : Loan). pre ++ l ∷ loans) is
place_changes false pre loans loan next change is = ap (λ (l : Loan). pre ++ l ∷ loans) is

-- Where each place changes as its item does, the board does so.
pub places_each : {A : Type 0} (test : Option ℕ → Bool) (change : Loan → Loan) (component : A → Option ℕ)
    (before after : A → Loan) (pre : List Loan) (xs : List A)
    → AllByRecursion (λ (x : A). (if test (component x) then change (before x) else before x) ≡ after x) xs
    → changed_where test change (length pre) (map component xs) (pre ++ map before xs) ≡ pre ++ map after xs
places_each test change component before after pre [] all = refl
places_each test change component before after pre (x ∷ xs) all =
    let others = map before xs in
    let here : (if test (component x) then with_loan (pre ++ before x ∷ others) (length pre) change
    else pre ++ before x ∷ others) ≡ (pre ++ after x ∷ []) ++ others =
    place_changes (test (component x)) pre others (before x) (after x) change all.0
    ∙ sym (append_assoc pre (after x ∷ []) others) in
    let at : length pre + 1 ≡ length (pre ++ after x ∷ []) = omega (arith, length-append pre (after x ∷ [])) in
    ap₂ (λ (k : ℕ) (loans : List Loan). changed_where test change k (map component xs) loans) at here
    ∙ places_each test change component before after (pre ++ after x ∷ []) xs all.1
    ∙ append_assoc pre (after x ∷ []) (map after xs)

-- what a place keeps, where it passes the test, and else
abbrev pub after_change : (Option ℕ → Bool) → (Loan → Loan) → Option ℕ → Loan → Loan
after_change test change component loan = if test component then change loan else loan

-- the component of each interface
abbrev pub component_at : InterfaceValue → Option ℕ
component_at v = component_of v.interface.whose

-- Where each place changes as its interface does, the board does so.
pub places_change : (own own' : Interface → Option ℕ) (there there' : Interface → Bool) (test : Option ℕ → Bool)
    (change : Loan → Loan) (next : InterfaceValue → InterfaceValue) (pre : List Loan) (vs : List InterfaceValue)
    → AllByRecursion
    (λ (v : InterfaceValue). after_change test change (component_at v) (loan_of own there v)
    ≡ loan_of own' there' (next v)) vs
    → changed_where test change (length pre) (map component_at vs) (pre ++ map (loan_of own there) vs)
    ≡ pre ++ map (loan_of own' there') (map next vs)
places_change own own' there there' test change next pre vs all =
    places_each test change component_at (loan_of own there) (λ (v : InterfaceValue). loan_of own' there' (next v)) pre
    vs all
    ∙ ap (λ (loans : List Loan). pre ++ loans) (sym (map-map (loan_of own' there') next vs))

-- ---- One interface

not_both : (a : Bool) → (a && not a) ≡ false
not_both true = refl
not_both false = refl

-- an interface that is not available, by these lifecycle states and active controllers, holds nothing
abbrev pub IsEmpty : List Life → (ℕ → Bool) → InterfaceValue → Type 0
IsEmpty lives controllers v = available_in lives controllers v.interface.whose ≡ false → v.value ≡ Unset

-- what a cycle's moves make of an interface
abbrev pub moved_of : List Life → List Life → List BodyState → InterfaceValue → InterfaceValue
moved_of before after bodies v =
    read_of (λ c. running after c && not (running before c)) bodies (cleared_of (λ c. not (running after c)) v)

-- an interface of these parts
abbrev of_parts : Called → Whose → Value → InterfaceValue
of_parts called whose value = record { interface = record { called = called; whose = whose }; value = value }

-- what is not read stays
not_read : (test : ℕ → Bool) (bodies : List BodyState) (v : InterfaceValue) → is_state_of test v.interface ≡ false
    → read_of test bodies v ≡ v
not_read test bodies v unread =
    ap (λ (b : Bool). if b then record v { value = shown bodies v.interface.called.name v.interface.whose } else v)
    unread

module _ (before after : List Life) (bodies : List BodyState) (called : Called) where
  -- a reference stays as it is
  moved_reference : (place : ℕ) (value : Value)
      → moved_of before after bodies (of_parts called (of_controller place) value)
      ≡ of_parts called (of_controller place) value
  moved_reference place value =
      not_read (λ c. running after c && not (running before c)) bodies (of_parts called (of_controller place) value)
      (and-false (not called.is_command))

  -- what is not available after is Unset
  moved_off : (c j : ℕ) (value : Value) → running after c ≡ false
      → moved_of before after bodies (of_parts called (of_joint c j) value) ≡ of_parts called (of_joint c j) Unset
  moved_off c j value there =
      let unread : (not called.is_command && (running after c && not (running before c))) ≡ false =
      ap (λ (b : Bool). not called.is_command && (b && not (running before c))) there
      ∙ and-false (not called.is_command) in
      ap (λ (b : Bool). read_of (λ c. running after c && not (running before c)) bodies
      (if not b then of_parts called (of_joint c j) Unset else of_parts called (of_joint c j) value)) there
      ∙ not_read (λ c. running after c && not (running before c)) bodies (of_parts called (of_joint c j) Unset) unread

  -- what was available and is so after stays
  moved_on : (c j : ℕ) (value : Value) → running after c ≡ true → running before c ≡ true
      → moved_of before after bodies (of_parts called (of_joint c j) value) ≡ of_parts called (of_joint c j) value
  moved_on c j value there was =
      let unread : (not called.is_command && (running after c && not (running before c))) ≡ false =
      ap₂ (λ (a b : Bool). not called.is_command && (a && not b)) there was ∙ and-false (not called.is_command) in
      ap (λ (b : Bool). read_of (λ c. running after c && not (running before c)) bodies
      (if not b then of_parts called (of_joint c j) Unset else of_parts called (of_joint c j) value)) there
      ∙ not_read (λ c. running after c && not (running before c)) bodies (of_parts called (of_joint c j) value) unread

-- an interface that is not available, by these lifecycle states and active controllers, has no owner
abbrev pub IsFreeUnlessThere : (Interface → Option ℕ) → List Life → (ℕ → Bool) → Interface → Type 0
IsFreeUnlessThere own lives controllers i = available_in lives controllers i.whose ≡ false → own i ≡ None

module _ (own : Interface → Option ℕ) (controllers : ℕ → Bool) (test : Option ℕ → Bool) (before after : List Life)
    (bodies : List BodyState) where
  -- whether an interface is available by these lifecycle states, and who has it then
  abbrev pub there : List Life → Interface → Bool
  there lives i = available_in lives controllers i.whose

  abbrev pub has : List Life → Interface → Option ℕ
  has lives i = if available_in lives controllers i.whose then own i else None

  -- its place changes as it does
  abbrev pub Moves : InterfaceValue → Type 0
  Moves v = after_change test vacated (component_at v) (loan_of own (there before) v)
      ≡ loan_of (has after) (there after) (moved_of before after bodies v)

  -- what is kept of an interface
  abbrev kept : Called → Value → Option ℕ → Bool → Loan
  kept called value owner there =
      record { value = value; owner = owner; is_command = called.is_command; is_available = there }

  -- what its place keeps, whether or not a component of these left
  abbrev left_or_not : Loan → Bool → Loan
  left_or_not loan left = if left then vacated loan else loan

  -- an interface of a joint
  abbrev joint_at : Called → ℕ → ℕ → Interface
  joint_at called c j = record { called = called; whose = of_joint c j }

  moves_off : (called : Called) (c j : ℕ) (value : Value) → test (Some c) ≡ true → running after c ≡ false
      → Moves (of_parts called (of_joint c j) value)
  moves_off called c j value left there_after =
      ap (left_or_not (kept called value (own (joint_at called c j)) (running before c))) left
      ∙ ap (λ (b : Bool). kept called Unset (if b then own (joint_at called c j) else None) b) (sym there_after)
      ∙ ap (loan_of (has after) (there after)) (sym (moved_off before after bodies called c j value there_after))

  moves_not : (called : Called) (c j : ℕ) (value : Value) (here : Bool)
      → IsEmpty before controllers (of_parts called (of_joint c j) value)
      → IsFreeUnlessThere own before controllers (joint_at called c j)
      → test (Some c) ≡ false → running after c ≡ here → running before c ≡ here
      → Moves (of_parts called (of_joint c j) value)
  moves_not called c j value true empty free left there_after was =
      ap (left_or_not (kept called value (own (joint_at called c j)) (running before c))) left
      ∙ ap (kept called value (own (joint_at called c j))) was
      ∙ ap (λ (b : Bool). kept called value (if b then own (joint_at called c j) else None) b) (sym there_after)
      ∙ ap (loan_of (has after) (there after)) (sym (moved_on before after bodies called c j value there_after was))
  moves_not called c j value false empty free left there_after was =
      ap (left_or_not (kept called value (own (joint_at called c j)) (running before c))) left
      ∙ ap₂ (λ (x : Value) (o : Option ℕ). kept called x o (running before c)) (empty was) (free was)
      ∙ ap (kept called Unset None) was
      ∙ ap (λ (b : Bool). kept called Unset (if b then own (joint_at called c j) else None) b) (sym there_after)
      ∙ ap (loan_of (has after) (there after)) (sym (moved_off before after bodies called c j value there_after))

  -- a reference stays as it is, and its owner has it
  moves_reference : (called : Called) (place : ℕ) (value : Value) (here : Bool) → controllers place ≡ here
      → IsFreeUnlessThere own before controllers (record { called = called; whose = of_controller place })
      → test None ≡ false → Moves (of_parts called (of_controller place) value)
  moves_reference called place value true is free none =
      ap (left_or_not
      (kept called value (own (record { called = called; whose = of_controller place })) (controllers place))) none
      ∙ ap (λ (o : Option ℕ). kept called value o (controllers place))
      (ap (λ (b : Bool). if b then own (record { called = called; whose = of_controller place }) else None) (sym is))
      ∙ ap (loan_of (has after) (there after)) (sym (moved_reference before after bodies called place value))
  moves_reference called place value false is free none =
      ap (left_or_not
      (kept called value (own (record { called = called; whose = of_controller place })) (controllers place))) none
      ∙ ap (λ (o : Option ℕ). kept called value o (controllers place))
      (free is ∙ ap (λ (b : Bool). if b then own (record { called = called; whose = of_controller place }) else None)
      (sym is))
      ∙ ap (loan_of (has after) (there after)) (sym (moved_reference before after bodies called place value))

  moves_part : (called : Called) (whose : Whose) (value : Value) → test None ≡ false
      → ((c : ℕ) → Fate (test (Some c)) (running before c) (running after c))
      → IsEmpty before controllers (of_parts called whose value)
      → IsFreeUnlessThere own before controllers (record { called = called; whose = whose })
      → Moves (of_parts called whose value)
  moves_part called (of_controller place) value none fate empty free =
      moves_reference called place value (controllers place) refl free none
  moves_part called (of_joint c j) value none fate empty free = elim (fate c) [
    | inl (left, there_after) ↦ moves_off called c j value left there_after
    | inr (left, there_after) ↦ moves_not called c j value (running before c) empty free left there_after refl
  ]

  pub moves : (v : InterfaceValue) → test None ≡ false
      → ((c : ℕ) → Fate (test (Some c)) (running before c) (running after c)) → IsEmpty before controllers v
      → IsFreeUnlessThere own before controllers v.interface → Moves v
  moves v none fate empty free = moves_part v.interface.called v.interface.whose v.value none fate empty free

module _ (controllers : ℕ → Bool) (before after : List Life) (bodies : List BodyState) where
  empties_case : (called : Called) (c j : ℕ) (value : Value) (here : Bool) → running after c ≡ here
      → (running after c ≡ true → running before c ≡ true)
      → IsEmpty after controllers (moved_of before after bodies (of_parts called (of_joint c j) value))
  empties_case called c j value true is was =
      subst (IsEmpty after controllers) (sym (moved_on before after bodies called c j value is (was is)))
      (λ (gone : running after c ≡ false). let e : true ≡ false = sym is ∙ gone in cc)
  empties_case called c j value false is was =
      subst (IsEmpty after controllers) (sym (moved_off before after bodies called c j value is))
      (λ (gone : running after c ≡ false). refl)

  empties_part : (called : Called) (whose : Whose) (value : Value)
      → ((c : ℕ) → running after c ≡ true → running before c ≡ true)
      → IsEmpty before controllers (of_parts called whose value)
      → IsEmpty after controllers (moved_of before after bodies (of_parts called whose value))
  empties_part called (of_controller place) value still empty =
      subst (IsEmpty after controllers) (sym (moved_reference before after bodies called place value)) empty
  empties_part called (of_joint c j) value still empty = empties_case called c j value (running after c) refl (still c)

  -- where none comes to be available, what is not holds nothing
  pub empties : (v : InterfaceValue) → ((c : ℕ) → running after c ≡ true → running before c ≡ true)
      → IsEmpty before controllers v → IsEmpty after controllers (moved_of before after bodies v)
  empties v still empty = empties_part v.interface.called v.interface.whose v.value still empty

-- what is claimed on a board is available
pub frees : (own : Interface → Option ℕ) (lives : List Life) (controllers : ℕ → Bool) (vs : List InterfaceValue)
    → AreSound (map (loan_of own (λ (i : Interface). available_in lives controllers i.whose)) vs)
    → AllByRecursion (λ (v : InterfaceValue). IsFreeUnlessThere own lives controllers v.interface) vs
frees own lives controllers [] sound = tt
frees own lives controllers (v ∷ vs) sound = (
  free_case (own v.interface) (available_in lives controllers v.interface.whose) sound.0.available,
  frees own lives controllers vs sound.1,
)
  where
    free_case : (o : Option ℕ) (here : Bool) → (is_some o ≡ true → here ≡ true) → here ≡ false → o ≡ None
    free_case None here claimed gone = refl
    free_case (Some n) here claimed gone = let e : true ≡ false = sym (claimed refl) ∙ gone in cc

-- what was available after was so before
pub was_there : (left before after : Bool) → Fate left before after → after ≡ true → before ≡ true
was_there left before after (inl (gone, there)) here = let e : true ≡ false = sym here ∙ there in cc
was_there left before after (inr (stays, there)) here = sym there ∙ here

-- ---- Reads

-- a component whose read succeeds is inactive or active
pub reads_run : (n : ℕ) (cs : List CompDesc) (lives : List Life) (k : ℕ)
    → option_map_or (λ (p : CompDesc × Life). read_succeeds p.0 p.1 n) (slice_get (zip cs lives) k) false ≡ true
    → running lives k ≡ true
reads_run n [] lives k reads = cc
reads_run n (c ∷ cs) [] k reads = cc
reads_run n (c ∷ cs) (life ∷ lives) zero reads = both_first (is_available life) (not (is_listed c.fail_read n)) reads
reads_run n (c ∷ cs) (life ∷ lives) (suc k) reads = reads_run n cs lives k reads

module _ (lives : List Life) (controllers : ℕ → Bool) (test : ℕ → Bool) (bodies : List BodyState) where
  -- what is not available is not read
  unread_part : (called : Called) (whose : Whose) (value : Value) → ((c : ℕ) → test c ≡ true → running lives c ≡ true)
      → IsEmpty lives controllers (of_parts called whose value)
      → IsEmpty lives controllers (read_of test bodies (of_parts called whose value))
  unread_part called (of_controller place) value runs empty = rw (and-false (not called.is_command)) empty
  unread_part called (of_joint c j) value runs empty = unread_case (not called.is_command && test c) refl
    where
      unread_case : (here : Bool) → (not called.is_command && test c) ≡ here
          → IsEmpty lives controllers (read_of test bodies (of_parts called (of_joint c j) value))
      unread_case true is =
          let runs_here : running lives c ≡ true = runs c (both_second (not called.is_command) (test c) is) in
          rw (is, runs_here) (λ (gone : true ≡ false). cc)
      unread_case false is = rw is empty

  pub unread : (v : InterfaceValue) → ((c : ℕ) → test c ≡ true → running lives c ≡ true) → IsEmpty lives controllers v
      → IsEmpty lives controllers (read_of test bodies v)
  unread v runs empty = unread_part v.interface.called v.interface.whose v.value runs empty

-- ---- What stays of an interface

pub read_keeps : (test : ℕ → Bool) (bodies : List BodyState) (v : InterfaceValue)
    → (read_of test bodies v).interface ≡ v.interface
read_keeps test bodies v =
    if_both (λ (x : InterfaceValue). x.interface) (is_state_of test v.interface)
    (record v { value = shown bodies v.interface.called.name v.interface.whose }) v v.interface refl refl

pub moved_keeps : (before after : List Life) (bodies : List BodyState) (v : InterfaceValue)
    → (moved_of before after bodies v).interface ≡ v.interface
moved_keeps before after bodies v =
    read_keeps (λ c. running after c && not (running before c)) bodies (cleared_of (λ c. not (running after c)) v)
    ∙ if_both (λ (x : InterfaceValue). x.interface) (belongs_to (λ c. not (running after c)) v.interface.whose)
    (unset v.interface) v v.interface refl refl

pub interfaces_stay : (f : InterfaceValue → InterfaceValue) → ((v : InterfaceValue) → (f v).interface ≡ v.interface)
    → (vs : List InterfaceValue)
    → map (λ (v : InterfaceValue). v.interface) (map f vs) ≡ map (λ (v : InterfaceValue). v.interface) vs
interfaces_stay f keeps [] = refl
interfaces_stay f keeps (v ∷ vs) =
    ap₂ (λ (i : Interface) (is : List Interface). i ∷ is) (keeps v) (interfaces_stay f keeps vs)

-- ---- Lists

-- what holds of each makes something else hold of each, also of what each becomes
pub all_of_each : {A B : Type 0} (P : A → Type 0) (Q : B → Type 0) (f : A → B) → ((x : A) → P x → Q (f x))
    → (xs : List A) → AllByRecursion P xs → AllByRecursion Q (map f xs)
all_of_each P Q f each [] all = tt
all_of_each P Q f each (x ∷ xs) all = (each x all.0, all_of_each P Q f each xs all.1)
