-- The flat lists of a switch.
use Rattle.std.specs.Prelude.{◌≡◌, ℕ, Bool, List, [], ◌∷◌, Option, Some, None}
use Rattle.cm_document.specs.Picks.{picked_names}
use Rattle.cm_document.specs.declared.call.Pick.{Pick}
use Rattle.cm_model.specs.Order.{Places, set_of}
use Rattle.cm_model.specs.Scene.{Scene, loaded_all}
use Rattle.cm_model.specs.Switches.{off_cause, on_cause, off_fault, on_fault, first_fault}
use Rattle.cm_model.specs.declared.cause.Cause.{Cause}
use Rattle.cm_model.specs.declared.cause.Cause.TheVariants as cause
use Rattle.cm_model.specs.declared.cause.Dropped.{Dropped}
use Rattle.cm_model.specs.declared.seen.Seen.{Seen}
use Rattle.switch_plan.specs.View.{HavePlaces}
use Rattle.switch_plan.specs.declared.lists.Listed.{Listed}
use Rattle.switch_plan.specs.declared.lists.Listed.TheVariants.{Faultless, Faulty}

-- what speaks against a name of the list to deactivate, or, where it is told which leave, of the list to activate
abbrev pub list_fault : Scene → Option (List Bool) → List (List ℕ) → List ℕ → Option Cause
list_fault scene None = off_fault scene
list_fault scene (Some leaving) = on_fault scene (set_of leaving)

-- the same, told by the controller of that name, if it is loaded, and by the set of those that the names before it name
abbrev pub fault_met : Option (List Bool) → Places → Option Seen → Option Cause
fault_met leaving met None = Some cause.Unknown
fault_met None met (Some seen) = off_cause (met seen.place) seen
fault_met (Some leaving) met (Some seen) = on_cause (set_of leaving) (met seen.place) seen

-- the first name that was dropped
abbrev pub first_dropped : List Dropped → Option Dropped
first_dropped [] = None
first_dropped (d ∷ ds) = Some d

-- a flat list was looked through: nothing speaks against it, and these are its controllers; or this comes first of what
-- does
abbrev pub IsListed : Scene → (List (List ℕ) → List ℕ → Option Cause) → List Pick → Listed → Type 0
IsListed scene fault picks (Faultless members) =
    (first_fault fault [] picks ≡ None) × (members.items ≡ loaded_all scene (picked_names picks))
    × HavePlaces scene members.items
IsListed scene fault picks (Faulty because) = first_fault fault [] picks ≡ Some because
