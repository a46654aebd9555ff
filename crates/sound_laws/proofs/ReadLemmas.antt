-- What a read of components leaves: each interface itself, the joints that they are of, and numbers in what is a state;
-- and nothing where it is not available.
use Rattle.std.proofs.Common.{◌≡◌, ℕ, Bool, true, false, List, length, map, refl, sym, ◌∙◌, true≢false}
use Rattle.std.specs.Prelude.{not, if◌then◌else◌, slice_get}
use Rattle.std.specs.List.{AllByRecursion}
use Rattle.std.proofs.lemmas.Bool.{and_parts}
use Rattle.fixed_num.specs.declared.value.BodyState.{BodyState}
use Rattle.fixed_num.specs.declared.value.Value.{Value}
use Rattle.iface_names.specs.declared.interface.IfaceName.{IfaceName}
use Rattle.cm_document.proofs.DistinctLemmas.{all_so, all_map}
use Rattle.cm_document.specs.Params.{kind_at}
use Rattle.cm_document.specs.Places.{Whose, of_joint, of_controller}
use Rattle.cm_document.specs.declared.description.CtlDesc.{CtlDesc}
use Rattle.cm_document.specs.declared.life.Life.{Life}
use Rattle.cm_model.proofs.CommitLemmas.{interfaces_stay}
use Rattle.cm_model.proofs.LoadedLemmas.{all_from}
use Rattle.cm_model.proofs.MoveLemmas.{measured_number, some_at, read_unclaimed}
use Rattle.cm_model.specs.Loans.{is_number, IsEmptyUnless, IsUnsetUnlessClaimed}
use Rattle.cm_model.specs.Order.{Places}
use Rattle.cm_model.specs.State.{available_in}
use Rattle.cm_model.specs.Steady.{HoldsNumber, HasBody}
use Rattle.cm_model.specs.Values.{InterfaceValue, running, belongs_to, is_state_of, shown, read_of, after_reads}

-- ---- What is shown

shown_number : (components : ℕ → Bool) (bodies : List BodyState) (name : IfaceName) (whose : Whose)
    → HasBody (length bodies) whose → belongs_to components whose ≡ true
    → is_number (shown bodies name whose) ≡ true
shown_number components bodies name (of_joint component joint) body belongs =
    measured_number (slice_get bodies joint) (kind_at name) (some_at bodies joint body)
shown_number components bodies name (of_controller place) body belongs = absurd (true≢false (sym belongs))

-- ---- One interface

same_read : (read : Bool) (v : InterfaceValue) (seen : Value)
    → (if read then record v { value = seen } else v).interface ≡ v.interface
same_read true v seen = refl
same_read false v seen = refl

pub read_same : (read : ℕ → Bool) (bodies : List BodyState) (v : InterfaceValue)
    → (read_of read bodies v).interface ≡ v.interface
read_same read bodies v =
    same_read (is_state_of read v.interface) v (shown bodies v.interface.called.name v.interface.whose)

-- Where its body is there, what was read holds a number; and what was not read holds what it held.
read_holds : (there read : ℕ → Bool) (bodies : List BodyState) (v : InterfaceValue)
    → HasBody (length bodies) v.interface.whose
    → (is_state_of read v.interface ≡ false → HoldsNumber there v) → HoldsNumber there (read_of read bodies v)
read_holds there read bodies v body held = either (is_state_of read v.interface) refl
  where
    either : (b : Bool) → is_state_of read v.interface ≡ b
        → HoldsNumber there
        (if b then record v { value = shown bodies v.interface.called.name v.interface.whose } else v)
    either true is = λ state.
        shown_number there bodies v.interface.called.name v.interface.whose body
        (and_parts (not v.interface.called.is_command) (belongs_to there v.interface.whose) state).1
    either false is = held is

-- a component's interface is there where the component runs
state_there : (read : ℕ → Bool) (lives : List Life) (controllers : ℕ → Bool)
    → ((c : ℕ) → read c ≡ true → running lives c ≡ true) → (whose : Whose) → belongs_to read whose ≡ true
    → available_in lives controllers whose ≡ true
state_there read lives controllers runs (of_joint component joint) belongs = runs component belongs
state_there read lives controllers runs (of_controller place) belongs = absurd (true≢false (sym belongs))

-- Where only components that run are read, what is not available holds nothing after it as before.
read_empty : (read : ℕ → Bool) (lives : List Life) (controllers : ℕ → Bool) (bodies : List BodyState)
    → ((c : ℕ) → read c ≡ true → running lives c ≡ true) → (v : InterfaceValue)
    → IsEmptyUnless (available_in lives controllers) v
    → IsEmptyUnless (available_in lives controllers) (read_of read bodies v)
read_empty read lives controllers bodies runs v empty = either (is_state_of read v.interface) refl
  where
    either : (b : Bool) → is_state_of read v.interface ≡ b
        → IsEmptyUnless (available_in lives controllers)
        (if b then record v { value = shown bodies v.interface.called.name v.interface.whose } else v)
    either true is = λ gone.
        absurd (true≢false
        (sym (state_there read lives controllers runs v.interface.whose
        (and_parts (not v.interface.called.is_command) (belongs_to read v.interface.whose) is).1) ∙ gone))
    either false is = empty

-- ---- All

pub reads_empty : (read : ℕ → Bool) (lives : List Life) (controllers : ℕ → Bool) (bodies : List BodyState)
    → ((c : ℕ) → read c ≡ true → running lives c ≡ true)
    → (vs : List InterfaceValue) → AllByRecursion (IsEmptyUnless (available_in lives controllers)) vs
    → AllByRecursion (IsEmptyUnless (available_in lives controllers)) (after_reads read bodies vs)
reads_empty read lives controllers bodies runs vs empty =
    all_map (IsEmptyUnless (available_in lives controllers)) (read_of read bodies) vs
    (all_so (IsEmptyUnless (available_in lives controllers)) _ (read_empty read lives controllers bodies runs) vs empty)

pub reads_unclaimed : (read : ℕ → Bool) (controllers : List CtlDesc) (set : Places) (bodies : List BodyState)
    (vs : List InterfaceValue)
    → AllByRecursion (IsUnsetUnlessClaimed controllers set) vs
    → AllByRecursion (IsUnsetUnlessClaimed controllers set) (after_reads read bodies vs)
reads_unclaimed read controllers set bodies vs unclaimed =
    all_map (IsUnsetUnlessClaimed controllers set) (read_of read bodies) vs
    (all_so (IsUnsetUnlessClaimed controllers set) _ (read_unclaimed controllers set read bodies) vs unclaimed)

pub reads_same : (read : ℕ → Bool) (bodies : List BodyState) (vs : List InterfaceValue)
    → map (λ v. v.interface) (after_reads read bodies vs) ≡ map (λ v. v.interface) vs
reads_same read bodies vs = interfaces_stay (read_of read bodies) (read_same read bodies) vs

pub reads_hold : (there read : ℕ → Bool) (bodies : List BodyState) (vs : List InterfaceValue)
    → AllByRecursion (λ v. HasBody (length bodies) v.interface.whose) vs
    → AllByRecursion (λ v. is_state_of read v.interface ≡ false → HoldsNumber there v) vs
    → AllByRecursion (HoldsNumber there) (after_reads read bodies vs)
reads_hold there read bodies vs embodied held =
    all_map (HoldsNumber there) (read_of read bodies) vs
    (all_from (λ v. HasBody (length bodies) v.interface.whose) _ (λ v. HoldsNumber there (read_of read bodies v))
    (λ v body holds. read_holds there read bodies v body holds) vs embodied held)
