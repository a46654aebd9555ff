-- What speaks against a member of a set of controllers that is to be active.
use Rattle.std.specs.Prelude.{ℕ, Bool, true, false, not, ◌&&◌, ◌==◌, List, [], ◌∷◌, ◌++◌, position, find}
use Rattle.std.specs.Prelude.{slice_index_or, Option, Some, None, option_map}
use Rattle.std.specs.List.{list_any}
use Rattle.std.specs.Option.{option_map_or, option_or}
use Rattle.iface_names.specs.Names.{same_name}
use Rattle.iface_names.specs.Interfaces.{same_kind}
use Rattle.iface_names.specs.declared.interface.IfaceName.{IfaceName}
use Rattle.iface_names.specs.declared.interface.IfaceName.TheVariants.{Joint, Reference}
use Rattle.cm_document.specs.Links.{exporter}
use Rattle.cm_document.specs.declared.description.CompDesc.{CompDesc}
use Rattle.cm_document.specs.declared.description.CtlDesc.{CtlDesc}
use Rattle.cm_document.specs.declared.life.Life.TheVariants.{Unconfigured}
use Rattle.cm_model.specs.Order.{Places}
use Rattle.cm_model.specs.Components.{is_available}
use Rattle.cm_model.specs.Scene.{Scene, controllers_in, described, is_ready, claims_at, order}
use Rattle.cm_model.specs.declared.cause.Cause.{Cause}
use Rattle.cm_model.specs.declared.cause.Cause.TheVariants as cause
use Rattle.cm_model.specs.declared.fault_kind.FaultKind.{FaultKind}
use Rattle.cm_model.specs.declared.fault_kind.FaultKind.TheVariants as fault_kind
use Rattle.cm_model.specs.declared.fault_kind.TheConstants.{FAULT_KINDS}
use Rattle.cm_model.specs.declared.member.Member.{Member}

-- the first that something is found of, and what is found
abbrev pub first_of : {A B : Type 0} → (A → Option B) → List A → Option B
first_of f [] = None
first_of f (x ∷ xs) = option_or (f x) (first_of f xs)

-- the cause, where the test is passed
abbrev pub cause_if : Bool → Cause → Option Cause
cause_if true reason = Some reason
cause_if false reason = None

-- ---- One interface

-- it is a reference whose exporter is not in the set
abbrev pub is_missing : List CtlDesc → Places → IfaceName → Bool
is_missing controllers set interface = option_map_or (λ q. not (set q)) (exporter controllers interface) false

-- the place of the component that has the interface; no component has a reference
abbrev pub component_with : List CompDesc → IfaceName → Option ℕ
component_with components (Joint joint kind) =
    position (λ component. list_any (λ each. same_name each.name joint) component.joints) components
component_with components (Reference controller joint kind) = None

-- it is a component's that is neither inactive nor active
abbrev pub is_unavailable : Scene → IfaceName → Bool
is_unavailable scene interface =
    option_map_or (λ place. not (is_available (slice_index_or scene.components place Unconfigured)))
    (component_with scene.description.components interface) false

-- the first other member, by order, that claims it
abbrev pub rival : Scene → Places → ℕ → IfaceName → Option Member
rival scene set p interface =
    find (λ m. not (m.place == p) && claims_at (controllers_in scene) m.place interface) (order scene set)

-- that another member claims it too, with the first such member
abbrev pub conflict_over : Scene → Places → ℕ → IfaceName → Option Cause
conflict_over scene set p interface =
    option_map (λ m. cause.Conflict interface (described scene m.place).name) (rival scene set p interface)

-- the two are different command interfaces of one joint
abbrev pub is_beside : IfaceName → IfaceName → Bool
is_beside (Joint joint kind) (Joint joint' kind') = same_name joint joint' && not (same_kind kind kind')
is_beside _ _ = false

-- a member claims another command interface of its joint
abbrev pub is_mode_taken : Scene → Places → IfaceName → Bool
is_mode_taken scene set interface =
    list_any (λ seen. set seen.place && list_any (is_beside interface) (described scene seen.place).claims) scene.loaded

-- the joint that an interface is named with
abbrev pub joint_name : IfaceName → List ℕ
joint_name (Joint joint kind) = joint
joint_name (Reference controller joint kind) = joint

-- ---- One member

-- The fault of each kind that a member of the set has, where `on` are the controllers that the list to activate names:
abbrev pub fault_of_kind : Scene → Places → Places → FaultKind → ℕ → Option Cause
-- the first reference that it claims whose exporter is not a member;
fault_of_kind scene set on fault_kind.Follower p =
    first_of (λ interface. cause_if (is_missing (controllers_in scene) set interface) (cause.MissingFollower interface))
    (described scene p).claims
-- the first interface that it claims, or else that it reads, whose component is neither inactive nor active;
fault_of_kind scene set on fault_kind.Availability p =
    first_of (λ interface. cause_if (is_unavailable scene interface) (cause.Unavailable interface))
    ((described scene p).claims ++ (described scene p).reads)
-- the first interface that it claims and another member too, with the first such member by order;
fault_of_kind scene set on fault_kind.Conflict p =
    first_of (conflict_over scene set p) (described scene p).claims
-- the first joint of which it claims a command interface and a member another one;
fault_of_kind scene set on fault_kind.Mode p =
    first_of (λ interface. cause_if (is_mode_taken scene set interface) (cause.ModeRefused (joint_name interface)))
    (described scene p).claims
-- that it is to be activated and is not ready.
fault_of_kind scene set on fault_kind.Readiness p = cause_if (on p && not (is_ready scene p)) cause.NotReady

-- The fault of a member is the first of these.
abbrev pub fault : Scene → Places → Places → ℕ → Option Cause
fault scene set on p = first_of (λ kind. fault_of_kind scene set on kind p) FAULT_KINDS
