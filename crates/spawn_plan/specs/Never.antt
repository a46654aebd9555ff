-- Controllers that can never be active together, whatever state the manager comes to.
use Rattle.std.specs.Prelude.{ℕ, suc, false, true, List, [], ◌∷◌, map, Option, None, Some, option_map, Result, Ok, Err}
use Rattle.cm_document.specs.declared.description.Description.{Description}
use Rattle.cm_document.specs.declared.life.Life.TheVariants.{Inactive, Active}
use Rattle.cm_model.specs.Faults.{first_of, fault_of_kind}
use Rattle.cm_model.specs.Order.{Places}
use Rattle.cm_model.specs.Scene.{Scene, described, order}
use Rattle.cm_model.specs.Switches.{with_name}
use Rattle.cm_model.specs.declared.cause.Dropped.{Dropped}
use Rattle.cm_model.specs.declared.fault_kind.FaultKind.{FaultKind}
use Rattle.cm_model.specs.declared.fault_kind.FaultKind.TheVariants as fault_kind
use Rattle.cm_model.specs.declared.member.Member.{Member}
use Rattle.cm_model.specs.declared.seen.Seen.{Seen}
use Rattle.spawn_plan.specs.Wanted.{is_wanted}
use Rattle.spawn_plan.specs.declared.fault.SpawnFault.{SpawnFault}
use Rattle.spawn_plan.specs.declared.fault.SpawnFault.TheVariants as fault

-- ---- At its best

-- a controller that is loaded under this serial, inactive, and ready
abbrev pub ready_at : ℕ → ℕ → Seen
ready_at serial place = record { serial = serial; place = place; life = Inactive; chained = false; ready = true }

-- these so, the first of them under this serial
abbrev pub ready_from : ℕ → List ℕ → List Seen
ready_from serial [] = []
ready_from serial (place ∷ places) = ready_at serial place ∷ ready_from (suc serial) places

-- What wanted controllers find at best: each is loaded, in the wanted order, inactive and ready, and each component is
-- active.
abbrev pub best_scene : Description → List ℕ → Scene
best_scene d places = record {
  description = d;
  loaded = ready_from 0 places;
  components = map (λ component. Active) d.components;
}

-- ---- What speaks against them even then

-- The faults that nothing but another wanted set mends: a missing follower, a conflict, a joint's mode.
abbrev pub lasting_kinds : List FaultKind
lasting_kinds = fault_kind.Follower ∷ fault_kind.Conflict ∷ fault_kind.Mode ∷ []

-- the fault of this kind that a member has beside the others, with its name
abbrev pub fault_beside : Scene → Places → FaultKind → Member → Option Dropped
fault_beside scene set kind m =
    option_map (with_name (described scene m.place).name) (fault_of_kind scene set set kind m.place)

-- Why these can never be active together: the first such fault of a wanted controller, by kind and then by the order of
-- updates. Serials are places in the wanted list.
abbrev pub never : Description → List ℕ → Option Dropped
never d places =
    first_of
    (λ kind. first_of (fault_beside (best_scene d places) (is_wanted places) kind)
    (order (best_scene d places) (is_wanted places))) lasting_kinds

-- they may be active together in some state: else this is why they never are
abbrev pub can_be_active : Description → List ℕ → Result (Unit {0}) SpawnFault
can_be_active d places =
    elim (never d places) [ None ↦ Ok tt | Some because ↦ Err (fault.Never because.name because.cause) ]
