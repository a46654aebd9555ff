-- What each state keeps that a legal history leads to: more than its soundness says, so that each step keeps it. Proofs
-- alone need it.
use Rattle.std.specs.Prelude.{◌≡◌, ℕ, ◌<◌, ◌==◌, ◌&&◌, Bool, true, List, length, map, is_some, IfSome}
use Rattle.std.specs.List.{list_any, AllByRecursion, IsDistinct}
use Rattle.cm_document.specs.Places.{Whose, of_joint, of_controller, interfaces_of}
use Rattle.cm_document.specs.declared.description.CtlDesc.{CtlDesc}
use Rattle.cm_document.specs.declared.description.Description.{Description}
use Rattle.cm_document.specs.declared.life.Life.{Life}
use Rattle.cm_model.specs.Loans.{is_number, CanRunTogether, IsEmptyUnless, IsUnsetUnlessClaimed, IsMarked}
use Rattle.cm_model.specs.Order.{Places, controller_at}
use Rattle.cm_model.specs.State.{State, Loaded, is_active, active, available_in}
use Rattle.cm_model.specs.Values.{InterfaceValue, running, is_state_of}

-- ---- Parts

-- a loaded controller that passes the test stands at this place
abbrev pub has_loaded : (Loaded → Bool) → List Loaded → Places
has_loaded test loaded p = list_any (λ l. test l && l.place == p) loaded

-- Its parameters are the described ones, where it has any; and it has some where it runs.
pub record IsOwn (controllers : List CtlDesc) (l : Loaded) : Type 0 where
  pub described : IfSome l.ctl.params (λ params. params ≡ (controller_at controllers l.place).params)
  pub configured : is_active l ≡ true → is_some l.ctl.params ≡ true

-- a state interface of these components holds a number
abbrev pub HoldsNumber : (ℕ → Bool) → InterfaceValue → Type 0
HoldsNumber components v = is_state_of components v.interface ≡ true → is_number v.value ≡ true

-- each of the set is loaded
abbrev pub AreLoaded : List Loaded → Places → Type 0
AreLoaded loaded set = (p : ℕ) → set p ≡ true → list_any (λ l. l.place == p) loaded ≡ true

-- and has parameters
abbrev pub AreConfigured : List Loaded → Places → Type 0
AreConfigured loaded set = AllByRecursion (λ l. set l.place ≡ true → is_some l.ctl.params ≡ true) loaded

-- the interface is a reference, or one of a joint that has a body among so many
abbrev pub HasBody : ℕ → Whose → Type 0
HasBody bodies (of_joint component joint) = joint < bodies
HasBody bodies (of_controller place) = Unit {0}

-- ---- Together

-- What switches, moves and cycles keep, whichever controllers are active: each described controller is loaded once at
-- most, with its own parameters; the active ones say rightly whether they are chained; each component has its lifecycle
-- state; the interfaces are the described ones, each of a joint with a body; each state interface that is available
-- holds a number; each interface that is not available holds nothing, and neither does a command interface or a
-- reference that no active controller claims.
pub record AreInOrder (d : Description) (loaded : List Loaded) (lives : List Life) (bodies : ℕ)
    (values : List InterfaceValue) : Type 0 where
  pub once : IsDistinct (λ p q. p == q) (map (λ l. l.place) loaded)
  pub own : AllByRecursion (IsOwn d.controllers) loaded
  pub marked : AllByRecursion (IsMarked d.controllers (has_loaded is_active loaded)) loaded
  pub counted : length lives ≡ length d.components
  pub described : map (λ v. v.interface) values ≡ interfaces_of d
  pub embodied : AllByRecursion (λ v. HasBody bodies v.interface.whose) values
  pub numbers : AllByRecursion (HoldsNumber (running lives)) values
  pub empty : AllByRecursion (IsEmptyUnless (available_in lives (has_loaded is_active loaded))) values
  pub unclaimed : AllByRecursion (IsUnsetUnlessClaimed d.controllers (has_loaded is_active loaded)) values

abbrev pub IsInOrder : State → Type 0
IsInOrder s = AreInOrder s.description s.loaded s.lives (length s.bodies) s.values

-- A state is steady where besides the active controllers can run together.
pub record IsSteady (s : State) : Type 0 where
  pub in_order : IsInOrder s
  pub together : CanRunTogether s.description s.lives (active s)
