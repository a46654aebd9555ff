-- When the cause is true that a refusal names. A cause is said of the name of a controller, or of a component.
use Rattle.std.specs.Prelude.{◌≡◌, ◌≢◌, ◌⊎◌, ℕ, ◌<◌, ◌==◌, Bool, true, false, not, ◌&&◌, ◌||◌, List, [], length}
use Rattle.std.specs.Prelude.{slice_index_or, Some, None, is_some, Contains}
use Rattle.std.specs.List.{list_any}
use Rattle.std.specs.Option.{option_map_or}
use Rattle.iface_names.specs.Names.{same_name}
use Rattle.iface_names.specs.declared.interface.IfaceName.{IfaceName}
use Rattle.iface_names.specs.declared.interface.IfaceName.TheVariants.{Joint}
use Rattle.iface_names.specs.declared.kind.Kind.{Kind}
use Rattle.cm_document.specs.Links.{exporter}
use Rattle.cm_document.specs.Picks.{group_of, picked_names}
use Rattle.cm_document.specs.declared.call.Pick.{Pick}
use Rattle.cm_document.specs.declared.call.Pick.TheVariants.{One, Group}
use Rattle.cm_document.specs.declared.life.Life.{Life}
use Rattle.cm_document.specs.declared.life.Life.TheVariants.{Unconfigured}
use Rattle.cm_model.specs.Boundary.{component_place, life_at}
use Rattle.cm_model.specs.Claims.{uses}
use Rattle.cm_model.specs.Commit.{described_of}
use Rattle.cm_model.specs.Components.{is_available, has_move}
use Rattle.cm_model.specs.Faults.{component_with}
use Rattle.cm_model.specs.Order.{Places}
use Rattle.cm_model.specs.Scene.{Scene, is_running, is_configured, controllers_in, described, active, named}
use Rattle.cm_model.specs.State.{State, is_active}
use Rattle.cm_model.specs.declared.cause.Cause.{Cause}
use Rattle.cm_model.specs.declared.cause.Cause.TheVariants as cause
use Rattle.cm_model.specs.declared.seen.Seen.{Seen}

-- ---- Of a strict switch

-- The set that a strict switch leads to: the active controllers that it does not name to leave, and those that it names
-- to come.
abbrev pub strict_set : Scene → List (List ℕ) → List (List ℕ) → Places
strict_set scene off on p = (active scene p && not (named scene off p)) || named scene on p

-- a loaded controller has this name
pub record IsCalled (scene : Scene) (name : List ℕ) (seen : Seen) : Type 0 where
  pub loaded : Contains scene.loaded seen
  pub name_is : (described scene seen.place).name ≡ name

-- one that is loaded has this name, and this is so of it
abbrev pub OfLoaded : Scene → List ℕ → (Seen → Type 0) → Type 0
OfLoaded scene name P = (seen : Seen) × IsCalled scene name seen × P seen

-- a name stands at two places of a list
abbrev pub StandsTwice : List (List ℕ) → List ℕ → Type 0
StandsTwice names name =
    (i : ℕ) × (j : ℕ) × (i < j) × (j < length names) × (slice_index_or names i [] ≡ name)
    × (slice_index_or names j [] ≡ name)

-- the controller at a place is a member of the set and claims the interface
pub record IsClaimant (scene : Scene) (set : Places) (interface : IfaceName) (p : ℕ) : Type 0 where
  pub member : set p ≡ true
  pub claims : Contains (described scene p).claims interface

-- the interface is a component's that is neither inactive nor active
abbrev pub IsDown : Scene → IfaceName → Type 0
IsDown scene interface =
    (place : ℕ) × (component_with scene.description.components interface ≡ Some place)
    × (is_available (slice_index_or scene.components place Unconfigured) ≡ false)

-- A cause is true of a controller's name, where a strict switch of these controllers leads to a set:
abbrev pub IsTrueOfController : Scene → List (List ℕ) → List (List ℕ) → List ℕ → Cause → Type 0
-- no controller of this name is loaded;
IsTrueOfController scene off on name cause.Unknown = (seen : Seen) → ¬ IsCalled scene name seen
-- it stands twice in one list;
IsTrueOfController scene off on name cause.Twice = StandsTwice off name ⊎ StandsTwice on name
-- it is on the list to deactivate, and not active;
IsTrueOfController scene off on name cause.NotActive =
    Contains off name × OfLoaded scene name (λ seen. is_running seen.life ≡ false)
-- it is on the list to activate, and unconfigured;
IsTrueOfController scene off on name cause.NotConfigured =
    Contains on name × OfLoaded scene name (λ seen. is_configured seen.life ≡ false)
-- it is on the list to activate and not on the other, and is active;
IsTrueOfController scene off on name cause.AlreadyActive =
    Contains on name × (¬ Contains off name) × OfLoaded scene name (λ seen. is_running seen.life ≡ true)
-- it is a member that claims the reference, and the exporter is none;
IsTrueOfController scene off on name (cause.MissingFollower interface) =
    OfLoaded scene name (λ seen. IsClaimant scene (strict_set scene off on) interface seen.place
    × ((q : ℕ) × (exporter (controllers_in scene) interface ≡ Some q) × (strict_set scene off on q ≡ false)))
-- it is on the list to activate, and claims or reads the interface, which is not available;
IsTrueOfController scene off on name (cause.Unavailable interface) = Contains on name
    × OfLoaded scene name
    (λ seen.
    (Contains (described scene seen.place).claims interface ⊎ Contains (described scene seen.place).reads interface)
    × IsDown scene interface)
-- it and the owner are two members that claim the interface;
IsTrueOfController scene off on name (cause.Conflict interface owner) =
    OfLoaded scene name (λ seen. OfLoaded scene owner (λ rival. (seen.place ≢ rival.place)
    × IsClaimant scene (strict_set scene off on) interface seen.place
    × IsClaimant scene (strict_set scene off on) interface rival.place))
-- it is a member that claims an interface of the joint, and a member claims another one of it;
IsTrueOfController scene off on name (cause.ModeRefused joint) =
    OfLoaded scene name (λ seen. (rival : Seen) × (kind : Kind) × (other : Kind) × (kind ≢ other)
    × IsClaimant scene (strict_set scene off on) (Joint joint kind) seen.place
    × IsClaimant scene (strict_set scene off on) (Joint joint other) rival.place)
-- it is on the list to activate, and not ready.
IsTrueOfController scene off on name cause.NotReady =
    Contains on name × OfLoaded scene name (λ seen. seen.ready ≡ false)
-- The other causes are of groups, and of requests to components.
IsTrueOfController scene off on name cause.NoGroup = ⊥
IsTrueOfController scene off on name cause.NoSuchMove = ⊥
IsTrueOfController scene off on name (cause.InUse owner) = ⊥

-- A list has the name as a group, and no such group is described.
pub record NamesNoGroup (scene : Scene) (off on : List Pick) (name : List ℕ) : Type 0 where
  pub listed : Contains off (Group name) ⊎ Contains on (Group name)
  pub none : group_of scene.description name ≡ None

-- A cause is true of a name that a strict switch of two flat lists has: that there is no such group, or what is true of
-- a controller.
abbrev pub IsTrueOf : Scene → List Pick → List Pick → List ℕ → Cause → Type 0
IsTrueOf scene off on name reason =
    ((reason ≡ cause.NoGroup) × NamesNoGroup scene off on name)
    ⊎ IsTrueOfController scene (picked_names off) (picked_names on) name reason

-- ---- Of a hardware request

-- an active controller of this name uses the component
abbrev pub is_used_by : State → ℕ → List ℕ → Bool
is_used_by s component name =
    list_any
    (λ l. (is_active l && same_name (described_of s l).name name)
    && uses s.description.components (λ place. place == component) (described_of s l)) s.loaded

-- The cause is true of a component that is to come to a state:
abbrev pub is_true_of_move : State → List ℕ → Life → Cause → Bool
-- no such component is described;
is_true_of_move s name target cause.Unknown = not (is_some (component_place s.description name))
-- it has no such move;
is_true_of_move s name target cause.NoSuchMove =
    option_map_or (λ place. not (has_move (life_at s place) target)) (component_place s.description name) false
-- its interfaces would not be available, and this active controller uses it.
is_true_of_move s name target (cause.InUse controller) =
    option_map_or (λ place. not (is_available target) && is_used_by s place controller)
    (component_place s.description name) false
-- The others are said of controllers.
is_true_of_move s name target _ = false
