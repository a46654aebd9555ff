-- How a switch is decided that is to be done whole or not at all, and what a decision changes.
use Rattle.std.specs.Prelude.{ℕ, Bool, true, false, not, ◌&&◌, ◌||◌, if◌then◌else◌, List, [], ◌∷◌, ◌++◌, map, reverse}
use Rattle.std.specs.Prelude.{filter, Option, Some, None, option_map}
use Rattle.std.specs.List.{list_any}
use Rattle.std.specs.Option.{option_map_or, option_or}
use Rattle.iface_names.specs.Names.{same_name}
use Rattle.cm_document.specs.Picks.{picked_names}
use Rattle.cm_document.specs.declared.call.Pick.{Pick}
use Rattle.cm_document.specs.declared.call.Pick.TheVariants.{One, Group}
use Rattle.cm_model.specs.Order.{Places}
use Rattle.cm_model.specs.Scene.{Scene, is_running, is_configured, controllers_in, described, active, loaded_of, named}
use Rattle.cm_model.specs.Scene.{is_chained_in, order}
use Rattle.cm_model.specs.Faults.{first_of, fault_of_kind}
use Rattle.cm_model.specs.declared.fault_kind.FaultKind.{FaultKind}
use Rattle.cm_model.specs.declared.fault_kind.FaultKind.TheVariants as fault_kind
use Rattle.cm_model.specs.declared.fault_kind.TheConstants.{FAULT_KINDS}
use Rattle.cm_model.specs.declared.cause.Cause.{Cause}
use Rattle.cm_model.specs.declared.cause.Cause.TheVariants as cause
use Rattle.cm_model.specs.declared.cause.Dropped.{Dropped}
use Rattle.cm_model.specs.declared.cause.Outcome.TheVariants as outcome
use Rattle.cm_model.specs.declared.member.Member.{Member}
use Rattle.cm_model.specs.declared.planned.Planned.{Planned}
use Rattle.cm_model.specs.declared.seen.Seen.{Seen}

-- ---- Names on lists

-- a name with its cause
abbrev pub with_name : List ℕ → Cause → Dropped
with_name name reason = record { name = name; cause = reason }

-- Why a loaded controller cannot be deactivated, where its name did or did not stand earlier in the list
abbrev pub off_cause : Bool → Seen → Option Cause
off_cause true seen = Some cause.Twice
off_cause false seen = if is_running seen.life then None else Some cause.NotActive

-- What speaks against a controller on the list to deactivate, behind those before it: that none of its name is loaded,
-- that it stands there twice, that it is not active.
abbrev pub off_fault : Scene → List (List ℕ) → List ℕ → Option Cause
off_fault scene before name =
    option_map_or (off_cause (list_any (same_name name) before)) (loaded_of scene name) (Some cause.Unknown)

-- why a loaded controller cannot be activated, where these leave
abbrev pub on_cause : Places → Bool → Seen → Option Cause
on_cause leaving true seen = Some cause.Twice
on_cause leaving false seen =
    if is_configured seen.life
    then (if is_running seen.life && not (leaving seen.place) then Some cause.AlreadyActive else None)
    else Some cause.NotConfigured

-- What speaks against a controller on the list to activate: that none of its name is loaded, that it stands there
-- twice, that it is unconfigured, that it is active and does not leave.
abbrev pub on_fault : Scene → Places → List (List ℕ) → List ℕ → Option Cause
on_fault scene leaving before name =
    option_map_or (on_cause leaving (list_any (same_name name) before)) (loaded_of scene name) (Some cause.Unknown)

-- The first name of a flat list that something speaks against, behind the controllers before it. A group stands in a
-- flat list only if no such group is described.
abbrev pub first_fault : (List (List ℕ) → List ℕ → Option Cause) → List (List ℕ) → List Pick → Option Dropped
first_fault fault before [] = None
first_fault fault before (Group name ∷ picks) = Some (with_name name cause.NoGroup)
first_fault fault before (One name ∷ picks) =
    option_or (option_map (with_name name) (fault before name)) (first_fault fault (before ++ name ∷ []) picks)

-- ---- Whole or not at all

-- the set that a switch leads to: the active controllers without those that leave, and with those that come
abbrev pub switched : Scene → Places → Places → Places
switched scene leaving coming p = (active scene p && not (leaving p)) || coming p

-- the kind counts for each member, also for those that were active
abbrev pub counts_for_all : FaultKind → Bool
counts_for_all fault_kind.Follower = true
counts_for_all _ = false

-- the faults that count: each of those that are to be activated, and of the others that a follower is missing
abbrev pub counted : Scene → Places → Places → FaultKind → ℕ → Option Cause
counted scene set on kind p = if counts_for_all kind || on p then fault_of_kind scene set on kind p else None

-- the fault of this kind that counts of a member, with its name
abbrev pub counted_of : Scene → Places → Places → FaultKind → Member → Option Dropped
counted_of scene set on kind m =
    option_map (with_name (described scene m.place).name) (counted scene set on kind m.place)

-- the fault that counts and comes first by kind, and then by order
abbrev pub first_member_fault : Scene → Places → Places → Option Dropped
first_member_fault scene set on =
    first_of (λ kind. first_of (counted_of scene set on kind) (order scene set)) FAULT_KINDS

-- A decision: refused because of a name; or done, without these names, so that the set is active, with these restarted.
pub data Decided : Type 0 where
  refused : Dropped → Decided
  done : List Dropped → Places → Places → Decided

-- refused because of a name, where there is one
abbrev pub unless_because : Option Dropped → Decided → Decided
unless_because None decided = decided
unless_because (Some because) decided = refused because

-- the decision where nothing speaks against a name of the lists: refused because of the first member that a fault
-- counts of; else done whole, and those on both lists restart
abbrev pub strict_between : Scene → Places → Places → Decided
strict_between scene leaving coming =
    unless_because (first_member_fault scene (switched scene leaving coming) coming)
    (done [] (switched scene leaving coming) (λ p. leaving p && coming p))

-- A strict switch of two flat lists is refused because of the first name to deactivate that something speaks against,
-- else the first to activate, else the first member of the set that it leads to; and else it is done whole.
abbrev pub strict : Scene → List Pick → List Pick → Decided
strict scene off on =
    unless_because (first_fault (off_fault scene) [] off)
    (unless_because (first_fault (on_fault scene (named scene (picked_names off))) [] on)
    (strict_between scene (named scene (picked_names off)) (named scene (picked_names on))))

-- ---- What changes

-- one of both is true
abbrev pub differ : Bool → Bool → Bool
differ true b = not b
differ false b = b

-- An active member restarts where it is named for that, or where it is chained before and not after, or after and not
-- before.
abbrev pub restarts : Scene → Places → Places → ℕ → Bool
restarts scene set again p =
    again p
    || differ (is_chained_in (controllers_in scene) (active scene) p) (is_chained_in (controllers_in scene) set p)

-- it is deactivated: it is active, and no member or restarts
abbrev pub is_stopped : Scene → Places → Places → Places
is_stopped scene set again p = active scene p && (not (set p) || restarts scene set again p)

-- it is activated: it is a member, and not active or restarts
abbrev pub is_started : Scene → Places → Places → Places
is_started scene set again p = set p && (not (active scene p) || restarts scene set again p)

-- the serials of those to deactivate, in the order of what was active: what commands a controller goes before it
abbrev pub off_list : Scene → Places → Places → List ℕ
off_list scene set again =
    map (λ m. m.serial) (filter (λ m. is_stopped scene set again m.place) (order scene (active scene)))

-- the serials of those to activate, against the order of the set: what commands a controller comes after it
abbrev pub on_list : Scene → Places → Places → List ℕ
on_list scene set again =
    reverse (map (λ m. m.serial) (filter (λ m. is_started scene set again m.place) (order scene set)))

-- the plan of a decision
abbrev pub planned : Scene → Decided → Planned
planned scene (refused because) = record { outcome = outcome.Refused because.name because.cause; off = []; on = [] }
planned scene (done dropped set again) = record {
  outcome = outcome.Done dropped;
  off = off_list scene set again;
  on = on_list scene set again;
}
