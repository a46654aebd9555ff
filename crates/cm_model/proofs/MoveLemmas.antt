-- What moves of components leave as it was: each state interface that is available holds a number, whichever components
-- moved.
use Rattle.std.proofs.Common.{◌≡◌, ℕ, zero, suc, ◌<◌, Bool, true, false, List, [], ◌∷◌, length}
use Rattle.std.proofs.Common.{Option, Some, None, refl, sym, subst, ap, ◌∙◌, true≢false, arith}
use Rattle.std.specs.Prelude.{◌&&◌, not, is_some, if◌then◌else◌, slice_get}
use Rattle.std.specs.Option.{option_map_or}
use Rattle.fixed_num.specs.declared.value.BodyState.{BodyState}
use Rattle.fixed_num.specs.declared.value.Value.{Value}
use Rattle.fixed_num.specs.declared.value.Value.TheVariants.{Unset, Num}
use Rattle.iface_names.specs.declared.kind.Kind.{Kind}
use Rattle.cm_document.proofs.DistinctLemmas.{all_so, all_map}
use Rattle.cm_document.specs.Params.{kind_at}
use Rattle.cm_document.specs.Places.{Whose, of_joint, of_controller}
use Rattle.cm_document.specs.declared.description.CtlDesc.{CtlDesc}
use Rattle.cm_document.specs.declared.life.Life.{Life}
use Rattle.cm_model.proofs.CommitLemmas.{freed_interface, interfaces_stay}
use Rattle.cm_model.proofs.LoadedLemmas.{and_false, all_from}
use Rattle.cm_model.specs.Components.{measured, measured_at}
use Rattle.cm_model.specs.Cycle.{moved}
use Rattle.cm_model.specs.Loans.{is_number, CanRunTogether, IsEmptyUnless, IsUnsetUnlessClaimed}
use Rattle.cm_model.specs.Order.{Places}
use Rattle.cm_model.specs.State.{State, active, available_in}
use Rattle.cm_model.specs.Steady.{HoldsNumber, HasBody, IsInOrder, IsSteady}
use Rattle.cm_model.specs.Values.{InterfaceValue, unset, running, belongs_to}
use Rattle.cm_model.specs.Values.{is_state_of, shown, read_of, cleared_of, cleared}

-- ---- One interface

-- what a read of a body gives that is there
pub measured_number : (o : Option BodyState) (kind : Kind) → is_some o ≡ true
    → is_number (option_map_or (λ body. Num (measured kind body)) o Unset) ≡ true
measured_number None kind some = absurd (true≢false (sym some))
measured_number (Some body) kind some = refl

-- the interface itself stays
pub cleared_interface : (gone : ℕ → Bool) (v : InterfaceValue) → (cleared_of gone v).interface ≡ v.interface
cleared_interface gone v = freed_interface v (belongs_to gone v.interface.whose)

read_interface : (read : Bool) (v : InterfaceValue) (seen : Value)
    → (if read then record v { value = seen } else v).interface ≡ v.interface
read_interface true v seen = refl
read_interface false v seen = refl

pub moved_interface : (new gone : ℕ → Bool) (bodies : List BodyState) (v : InterfaceValue)
    → (read_of new bodies (cleared_of gone v)).interface ≡ v.interface
moved_interface new gone bodies v =
    read_interface (is_state_of new (cleared_of gone v).interface) (cleared_of gone v)
    (shown bodies (cleared_of gone v).interface.called.name (cleared_of gone v).interface.whose)
    ∙ cleared_interface gone v

-- what it holds after a move
moved_value : (new gone : Bool) (v : InterfaceValue) (seen : Value)
    → (if new then record (if gone then unset v.interface else v) { value = seen }
    else (if gone then unset v.interface else v)).value
    ≡ (if new then seen else (if gone then Unset else v.value))
moved_value true gone v seen = refl
moved_value false true v seen = refl
moved_value false false v seen = refl

-- of a component that is there after: what it held, where it was there before, else what its body measures
there_number : (after before : Bool) (old seen : Value) → after ≡ true → (before ≡ true → is_number old ≡ true)
    → is_number seen ≡ true
    → is_number (if after && not before then seen else (if not after then Unset else old)) ≡ true
there_number true true old seen there held number = held refl
there_number true false old seen there held number = number
there_number false before old seen there held number = absurd (true≢false (sym there))

-- a command is no state, and neither is a reference
no_command : (components : ℕ → Bool) (v : InterfaceValue) → v.interface.called.is_command ≡ true
    → is_state_of components v.interface ≡ true → ⊥
no_command components v command state = true≢false (sym (rw command at state))

no_reference : (components : ℕ → Bool) (v : InterfaceValue) (place : ℕ) → v.interface.whose ≡ of_controller place
    → is_state_of components v.interface ≡ true → ⊥
no_reference components v place whose state =
    true≢false (sym (sym (and_false (not v.interface.called.is_command)) ∙ (rw whose at state)))

-- a list has an item below its length
pub some_at : {A : Type 0} (xs : List A) (i : ℕ) → i < length xs → is_some (slice_get xs i) ≡ true
some_at [] i within = absurd (omega (arith, within))
some_at (x ∷ xs) zero within = refl
some_at (x ∷ xs) (suc i) within = some_at xs i (omega (arith, within))

-- An interface after components moved: where it is a state interface and its component is there, it holds a number.
moved_holds : (before after : ℕ → Bool) (bodies : List BodyState) (v : InterfaceValue) (command : Bool) (whose : Whose)
    → v.interface.called.is_command ≡ command → v.interface.whose ≡ whose
    → HasBody (length bodies) whose → HoldsNumber before v
    → HoldsNumber after
    (read_of (λ each. after each && not (before each)) bodies (cleared_of (λ each. not (after each)) v))
moved_holds before after bodies v true whose is_command is_whose body holds = λ state.
    absurd (no_command after v is_command
    (subst (λ interface. is_state_of after interface ≡ true)
    (moved_interface (λ each. after each && not (before each)) (λ each. not (after each)) bodies v) state))
moved_holds before after bodies v false (of_controller place) is_command is_whose body holds = λ state.
    absurd (no_reference after v place is_whose
    (subst (λ interface. is_state_of after interface ≡ true)
    (moved_interface (λ each. after each && not (before each)) (λ each. not (after each)) bodies v) state))
moved_holds before after bodies v false (of_joint component joint) is_command is_whose body holds = λ state.
    let there : after component ≡ true =
    rw (
      is_command,
      is_whose,
    ) at (subst (λ interface. is_state_of after interface ≡ true)
    (moved_interface (λ each. after each && not (before each)) (λ each. not (after each)) bodies v) state) in
    let held : before component ≡ true → is_number v.value ≡ true = λ was. holds (rw (is_command, is_whose) was) in
    rw (
      moved_value (is_state_of (λ each. after each && not (before each))
          (cleared_of (λ each. not (after each)) v).interface) (belongs_to (λ each. not (after each)) v.interface.whose)
          v
          (shown bodies (cleared_of (λ each. not (after each)) v).interface.called.name
          (cleared_of (λ each. not (after each)) v).interface.whose),
      cleared_interface (λ each. not (after each)) v,
      is_command,
      is_whose,
    )
    (there_number (after component) (before component) v.value
    (measured_at bodies (record { joint = joint; kind = kind_at v.interface.called.name })) there held
    (measured_number (slice_get bodies joint) (kind_at v.interface.called.name) (some_at bodies joint body)))

-- it holds nothing where it is cleared and not read, or held nothing
moved_unset : (new gone : Bool) (old seen : Value) → new ≡ false → (gone ≡ false → old ≡ Unset)
    → (if new then seen else (if gone then Unset else old)) ≡ Unset
moved_unset true gone old seen unread held = absurd (true≢false unread)
moved_unset false true old seen unread held = refl
moved_unset false false old seen unread held = held refl

-- what is not available after a move is not read then,
not_read : (before after : List Life) (controllers : ℕ → Bool) (command : Bool) (whose : Whose)
    → available_in after controllers whose ≡ false
    → (not command && belongs_to (λ each. running after each && not (running before each)) whose) ≡ false
not_read before after controllers command (of_joint component joint) gone =
    ap (λ b. not command && (b && not (running before component))) gone ∙ and_false (not command)
not_read before after controllers command (of_controller place) gone = and_false (not command)

-- and where it was not cleared, it was not available before
not_cleared : (before after : List Life) (controllers : ℕ → Bool) (whose : Whose)
    → available_in after controllers whose ≡ false
    → belongs_to (λ each. not (running after each)) whose ≡ false → available_in before controllers whose ≡ false
not_cleared before after controllers (of_joint component joint) gone kept =
    absurd (true≢false (sym (ap not gone) ∙ kept))
not_cleared before after controllers (of_controller place) gone kept = gone

-- So an interface that is not available after components moved holds nothing.
moved_empty : (before after : List Life) (controllers : ℕ → Bool) (bodies : List BodyState) (v : InterfaceValue)
    → IsEmptyUnless (available_in before controllers) v
    → IsEmptyUnless (available_in after controllers)
    (read_of (λ each. running after each && not (running before each)) bodies
    (cleared_of (λ each. not (running after each)) v))
moved_empty before after controllers bodies v empty = λ gone.
    let out : available_in after controllers v.interface.whose ≡ false =
    subst (λ interface. available_in after controllers interface.whose ≡ false)
    (moved_interface (λ each. running after each && not (running before each)) (λ each. not (running after each)) bodies
    v) gone in
    rw (
      moved_value (is_state_of (λ each. running after each && not (running before each))
          (cleared_of (λ each. not (running after each)) v).interface)
          (belongs_to (λ each. not (running after each)) v.interface.whose) v
          (shown bodies (cleared_of (λ each. not (running after each)) v).interface.called.name
          (cleared_of (λ each. not (running after each)) v).interface.whose),
      cleared_interface (λ each. not (running after each)) v,
    )
    (moved_unset (is_state_of (λ each. running after each && not (running before each)) v.interface)
    (belongs_to (λ each. not (running after each)) v.interface.whose) v.value
    (shown bodies v.interface.called.name v.interface.whose)
    (not_read before after controllers v.interface.called.is_command v.interface.whose out)
    (λ kept. empty (not_cleared before after controllers v.interface.whose out kept)))

-- ---- What nobody claims

-- A command interface or a reference that nobody claims holds nothing after its component lost what it held,
cleared_unclaimed : (controllers : List CtlDesc) (set : Places) (gone : ℕ → Bool) (v : InterfaceValue)
    → IsUnsetUnlessClaimed controllers set v
    → IsUnsetUnlessClaimed controllers set (cleared_of gone v)
cleared_unclaimed controllers set gone v unclaimed = either (belongs_to gone v.interface.whose)
  where
    either : (b : Bool) → IsUnsetUnlessClaimed controllers set (if b then unset v.interface else v)
    either true = λ command none. refl
    either false = unclaimed

-- nor after a read, which is of states.
pub read_unclaimed : (controllers : List CtlDesc) (set : Places) (read : ℕ → Bool) (bodies : List BodyState)
    (v : InterfaceValue) → IsUnsetUnlessClaimed controllers set v
    → IsUnsetUnlessClaimed controllers set (read_of read bodies v)
read_unclaimed controllers set read bodies v unclaimed = either (is_state_of read v.interface) refl
  where
    either : (b : Bool) → is_state_of read v.interface ≡ b
        → IsUnsetUnlessClaimed controllers set
        (if b then record v { value = shown bodies v.interface.called.name v.interface.whose } else v)
    either true is = λ command none. absurd (no_command read v command is)
    either false is = unclaimed

-- ---- All

module _ (s : State) (lives : List Life) (kept : IsInOrder s) where
  -- What is kept whichever controllers are active is kept where components move.
  pub moved_in_order : length lives ≡ length s.lives → IsInOrder (moved s lives)
  moved_in_order as_many = record {
    once = kept.once;
    own = kept.own;
    marked = kept.marked;
    counted = as_many ∙ kept.counted;
    described =
        interfaces_stay (read_of (λ component. running lives component && not (running s.lives component)) s.bodies)
        (λ v. read_interface _ v _) (cleared (λ component. not (running lives component)) s.values)
        ∙ interfaces_stay (cleared_of (λ component. not (running lives component)))
        (cleared_interface (λ component. not (running lives component))) s.values ∙ kept.described;
    embodied = all_map _ _ (cleared (λ component. not (running lives component)) s.values) (all_map _ _ s.values
        (all_so (λ v. HasBody (length s.bodies) v.interface.whose)
        (λ v. HasBody (length s.bodies)
        (read_of (λ component. running lives component && not (running s.lives component)) s.bodies
        (cleared_of (λ component. not (running lives component)) v)).interface.whose)
        (λ v has. subst (λ interface. HasBody (length s.bodies) interface.whose)
        (sym (moved_interface (λ component. running lives component && not (running s.lives component))
        (λ component. not (running lives component)) s.bodies v)) has)
        s.values kept.embodied));
    numbers = all_map _ _ (cleared (λ component. not (running lives component)) s.values) (all_map _ _ s.values
        (all_from _ _ _
        (λ v body holds. moved_holds (running s.lives) (running lives) s.bodies v v.interface.called.is_command
        v.interface.whose refl refl body holds)
        s.values kept.embodied kept.numbers));
    empty = all_map _ _ (cleared (λ component. not (running lives component)) s.values) (all_map _ _ s.values
        (all_so _ _ (λ v empty. moved_empty s.lives lives (active s) s.bodies v empty) s.values kept.empty));
    unclaimed = all_map _ _ (cleared (λ component. not (running lives component)) s.values) (all_map _ _ s.values
        (all_so _ _ (λ v unclaimed. read_unclaimed s.description.controllers (active s)
        (λ component. running lives component && not (running s.lives component)) s.bodies
        (cleared_of (λ component. not (running lives component)) v)
        (cleared_unclaimed s.description.controllers (active s) (λ component. not (running lives component)) v
        unclaimed)) s.values kept.unclaimed));
  }

  -- A steady state stays steady where the components of the active controllers stay available.
  pub moved_steady : length lives ≡ length s.lives → CanRunTogether s.description lives (active s)
      → IsSteady (moved s lives)
  moved_steady as_many together = record { in_order = moved_in_order as_many; together = together }
