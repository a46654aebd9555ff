-- Loans: which controllers can run together, and what holds of the controllers and the interfaces in each state.
use Rattle.std.specs.Prelude.{◌≡◌, ℕ, ◌==◌, Bool, true, false, ◌++◌, List, map, slice_index_or, IfSome}
use Rattle.std.specs.List.{AllByRecursion, IsDistinct}
use Rattle.std.specs.Option.{option_map_or}
use Rattle.fixed_num.specs.declared.value.Value.{Value}
use Rattle.fixed_num.specs.declared.value.Value.TheVariants.{Unset, Num}
use Rattle.iface_names.specs.declared.interface.IfaceName.{IfaceName}
use Rattle.cm_document.specs.Links.{is_among}
use Rattle.cm_document.specs.Places.{Whose}
use Rattle.cm_document.specs.declared.description.CtlDesc.{CtlDesc}
use Rattle.cm_document.specs.declared.description.Description.{Description}
use Rattle.cm_document.specs.declared.life.Life.{Life}
use Rattle.cm_document.specs.declared.life.Life.TheVariants.{Unconfigured}
use Rattle.cm_model.specs.Claims.{is_state_named, value_where}
use Rattle.cm_model.specs.Components.{is_available}
use Rattle.cm_model.specs.Controllers.{runs_chained}
use Rattle.cm_model.specs.Faults.{component_with, is_missing, is_beside}
use Rattle.cm_model.specs.Order.{Places, controller_at}
use Rattle.cm_model.specs.Scene.{claims_at, is_claimed_by, is_chained_in}
use Rattle.cm_model.specs.Serials.{serials_of, AreRising}
use Rattle.cm_model.specs.State.{State, Loaded, active, available_in}
use Rattle.cm_model.specs.Values.{InterfaceValue}

-- ---- Of a set of controllers

-- the controller at this place claims the interface or reads it
abbrev pub names_at : List CtlDesc → ℕ → IfaceName → Bool
names_at controllers p interface =
    is_among interface ((controller_at controllers p).claims ++ (controller_at controllers p).reads)

-- the controller at this place reads the interface
abbrev pub reads_at : List CtlDesc → ℕ → IfaceName → Bool
reads_at controllers p interface = is_among interface (controller_at controllers p).reads

-- the interface is a reference, or one of a component that is inactive or active
abbrev pub is_there : Description → List Life → IfaceName → Bool
is_there d lives interface =
    option_map_or (λ place. is_available (slice_index_or lives place Unconfigured))
    (component_with d.components interface) true

-- Of a set of controllers, while the components are in these lifecycle states:
pub record CanRunTogether (d : Description) (lives : List Life) (set : Places) : Type 0 where
  -- no two members claim one interface;
  pub exclusive : (p q : ℕ) (interface : IfaceName) → set p ≡ true → set q ≡ true
      → claims_at d.controllers p interface ≡ true → claims_at d.controllers q interface ≡ true → p ≡ q
  -- no two command interfaces of one joint are claimed by members;
  pub one_mode : (p q : ℕ) (interface other : IfaceName) → set p ≡ true → set q ≡ true
      → claims_at d.controllers p interface ≡ true → claims_at d.controllers q other ≡ true
      → is_beside interface other ≡ false
  -- what a member claims or reads of a component is available;
  pub available : (p : ℕ) (interface : IfaceName) → set p ≡ true → names_at d.controllers p interface ≡ true
      → is_there d lives interface ≡ true
  -- and the controller is a member that exports a reference which a member claims.
  pub followed : (p : ℕ) (interface : IfaceName) → set p ≡ true → claims_at d.controllers p interface ≡ true
      → is_missing d.controllers set interface ≡ false

-- ---- Of what an interface holds

-- it holds a number
abbrev pub is_number : Value → Bool
is_number Unset = false
is_number (Num n) = true

-- where it is not there, the interface holds nothing
abbrev pub IsEmptyUnless : (Whose → Bool) → InterfaceValue → Type 0
IsEmptyUnless there v = there v.interface.whose ≡ false → v.value ≡ Unset

-- a command interface or a reference that no member of the set claims holds nothing
abbrev pub IsUnsetUnlessClaimed : List CtlDesc → Places → InterfaceValue → Type 0
IsUnsetUnlessClaimed controllers set v =
    v.interface.called.is_command ≡ true → is_claimed_by controllers set v.interface.called.name ≡ false
    → v.value ≡ Unset

-- ---- Of a loaded controller

-- where it runs, it says chained exactly where a member of the set claims one of its references
abbrev pub IsMarked : List CtlDesc → Places → Loaded → Type 0
IsMarked controllers set l = IfSome l.ctl.run (λ part. runs_chained part ≡ is_chained_in controllers set l.place)

-- ---- In a state

-- In a state:
pub record LoansHold (s : State) : Type 0 where
  -- each described controller is loaded once at most,
  pub once : IsDistinct (λ p q. p == q) (map (λ l. l.place) s.loaded)
  -- and serials rise along the list of the loaded ones;
  pub rising : AreRising (serials_of s.loaded)
  -- the active controllers can run together;
  pub together : CanRunTogether s.description s.lives (active s)
  -- each interface that one of them reads holds a number;
  pub present : (p : ℕ) (interface : IfaceName) → active s p ≡ true
      → reads_at s.description.controllers p interface ≡ true
      → is_number (value_where (is_state_named interface) s.values) ≡ true
  -- each interface that is not available holds nothing,
  pub empty : AllByRecursion (IsEmptyUnless (available_in s.lives (active s))) s.values
  -- and neither does a command interface or a reference that none of them claims;
  pub unclaimed : AllByRecursion (IsUnsetUnlessClaimed s.description.controllers (active s)) s.values
  -- and each running part says rightly whether its controller is chained.
  pub marked : AllByRecursion (IsMarked s.description.controllers (active s)) s.loaded
