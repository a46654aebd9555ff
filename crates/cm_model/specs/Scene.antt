-- What a switch is decided by.
use Rattle.std.specs.Prelude.{ℕ, Bool, true, false, ◌&&◌, ◌==◌, List, length, map, filter, filter_map, find, Option}
use Rattle.std.specs.Prelude.{option_map}
use Rattle.std.specs.List.{list_any}
use Rattle.iface_names.specs.Names.{same_name}
use Rattle.iface_names.specs.Interfaces.{same_interface}
use Rattle.iface_names.specs.declared.interface.IfaceName.{IfaceName}
use Rattle.cm_document.specs.declared.description.CtlDesc.{CtlDesc}
use Rattle.cm_document.specs.declared.description.Description.{Description}
use Rattle.cm_document.specs.declared.life.Life.{Life}
use Rattle.cm_document.specs.declared.life.Life.TheVariants.{Inactive, Active}
use Rattle.cm_model.specs.Order.{Places, places_of, controller_at, precedes_at, some_below, in_order}
use Rattle.cm_model.specs.declared.member.Member.{Member}
use Rattle.cm_model.specs.declared.seen.Seen.{Seen}

-- A scene: the described controllers and components, the loaded controllers by serial, and the components' lifecycle
-- states, each at its component's place. A state of the manager is one, by a function that reads these parts off it.
pub record Scene : Type 0 where
  pub description : Description
  pub loaded : List Seen
  pub components : List Life

-- ---- Lifecycle states

-- a controller in this state is active
abbrev pub is_running : Life → Bool
is_running Active = true
is_running _ = false

-- a controller in this state has parameters
abbrev pub is_configured : Life → Bool
is_configured Inactive = true
is_configured Active = true
is_configured _ = false

-- ---- Controllers

-- the described controllers, by place
abbrev pub controllers_in : Scene → List CtlDesc
controllers_in scene = scene.description.controllers

-- the described controller at a place
abbrev pub described : Scene → ℕ → CtlDesc
described scene p = controller_at (controllers_in scene) p

-- a loaded controller at this place passes the test
abbrev pub has_seen : (Seen → Bool) → List Seen → ℕ → Bool
has_seen test loaded p = list_any (λ seen. seen.place == p && test seen) loaded

-- the active controllers
abbrev pub active : Scene → Places
active scene = has_seen (λ seen. is_running seen.life) scene.loaded

-- the controllers that are ready to be activated in the cycle to come
abbrev pub is_ready : Scene → Places
is_ready scene = has_seen (λ seen. seen.ready) scene.loaded

-- the loaded controller of this name
abbrev pub loaded_of : Scene → List ℕ → Option Seen
loaded_of scene name = find (λ seen. same_name (described scene seen.place).name name) scene.loaded

-- the controller at a place claims the interface
abbrev pub claims_at : List CtlDesc → ℕ → IfaceName → Bool
claims_at controllers p interface =
    list_any (λ claim. same_interface claim interface) (controller_at controllers p).claims

-- a member of the set claims the interface
abbrev pub is_claimed_by : List CtlDesc → Places → IfaceName → Bool
is_claimed_by controllers set interface =
    some_below (λ q. set q && claims_at controllers q interface) (length controllers)

-- a controller is chained in a set where a member claims one of its references
abbrev pub is_chained_in : List CtlDesc → Places → ℕ → Bool
is_chained_in controllers set p = some_below (λ q. set q && precedes_at controllers q p) (length controllers)

-- a loaded controller by its serial and place
abbrev pub member : Seen → Member
member seen = record { serial = seen.serial; place = seen.place }

-- the loaded controllers of these names, where there are such
abbrev pub loaded_all : Scene → List (List ℕ) → List Member
loaded_all scene names = filter_map (λ name. option_map member (loaded_of scene name)) names

-- as a set
abbrev pub named : Scene → List (List ℕ) → Places
named scene names = places_of (loaded_all scene names)

-- the members of a set, by serial
abbrev pub members : Scene → Places → List Member
members scene set = map member (filter (λ seen. set seen.place) scene.loaded)

-- the members of a set in the order of their updates
abbrev pub order : Scene → Places → List Member
order scene set = in_order (controllers_in scene) set (members scene set)
