-- What a cycle can tell, of the hardware of a state.
use Rattle.std.proofs.Common.{◌≡◌, ◌+◌, true, List, [], ◌∷◌, ◌++◌, length, map, refl, sym, ap, ap₂, subst, ◌∙◌, arith}
use Rattle.std.specs.Prelude.{◌==◌, Option, None, Some, IfSome, IsSomeAnd}
use Rattle.cm_document.specs.declared.description.Description.{Description}
use Rattle.sequence.proofs.ListLemmas.{all_push}
use Rattle.cm_storage.proofs.RanLemmas.{no_item}
use Rattle.cm_model.specs.declared.member.Member.{Member}
use Rattle.cm_storage.specs.declared.record_room.RecordRoom.{RecordRoom}
use Rattle.cm_hardware.specs.Wiring.{Wired, Mounted, most_failures, all_joints, can_fail, one_if}
use Rattle.cm_places.specs.Placed.{Placed}
use Rattle.rt_flight.specs.Flights.{TellsNothing}
use Rattle.rt_flight.specs.Workspaces.{WorkspaceFacts, IsFitted}
use Rattle.cm_resources.specs.CycleNeeds.{failing, joints, stands_for, HasRoom, HasRoomOf, IsBuiltAs}
use Rattle.cm_resources.specs.CycleNeeds.{IsSizeOf, IsWorkspaceFor, AreKept, AreWorkspacesFor, AreWorkspaces}
use Rattle.cm_resources.specs.declared.needs.HardwareSize.{HardwareSize}

-- ---- Components

failing_is : (ms : List Mounted) → most_failures ms ≡ failing (map (λ (m : Mounted). m.hardware.description) ms)
failing_is [] = refl
failing_is (m ∷ ms) = ap (λ n. one_if (can_fail m.hardware.description) + n) (failing_is ms)

joints_are : (ms : List Mounted) → all_joints ms ≡ joints (map (λ (m : Mounted). m.hardware.description) ms)
joints_are [] = refl
joints_are (m ∷ ms) = ap (λ n. length m.hardware.description.joints + n) (joints_are ms)

-- hardware of some components can tell as many failures as these
pub most_of : (d : Description) (w : Wired) → IsBuiltAs d w → most_failures w.components ≡ failing d.components
most_of d w built = failing_is w.components ∙ ap failing (sym built)

pub joints_of : (d : Description) (w : Wired) → IsBuiltAs d w → all_joints w.components ≡ joints d.components
joints_of d w built = joints_are w.components ∙ ap joints (sym built)

-- in room that is enough nothing is told
pub tells_nothing : (d : Description) (placed : Placed) (order : List Member) (r : RecordRoom)
    → HasRoom d placed order r → TellsNothing r
tells_nothing d placed order r has =
    record {
      no_failure = has.no_failure;
      none_ran = has.none_ran;
      no_body = has.no_body;
      none_stopped =
          has.none_stopped;
    }

-- room in which nothing is told is enough where nobody flies, if it is for the hardware
enough_for_none : (d : Description) (placed : Placed) (s : HardwareSize) (o : Option RecordRoom) → IsSizeOf d s
    → IfSome o TellsNothing → IsSomeAnd o (HasRoomOf s)
    → IsSomeAnd o (HasRoom d placed [])
enough_for_none d placed s None size tells has = absurd has
enough_for_none d placed s (Some r) size tells has = record {
  no_failure = tells.no_failure;
  failures = omega (arith, size.failures, has.failures);
  no_body = tells.no_body;
  bodies = omega (arith, size.joints, has.joints);
  none_ran = tells.none_ran;
  heads = omega arith;
  values = omega arith;
  numbers = omega arith;
  none_stopped = tells.none_stopped;
  stops = omega arith;
}

pub room_stays : (d : Description) (placed : Placed) (s : HardwareSize) (order : List Member) (o : Option RecordRoom)
    → IsSizeOf d s → (length order == 0) ≡ true → IfSome o TellsNothing
    → IsSomeAnd o (HasRoomOf s) → IsSomeAnd o (HasRoom d placed order)
room_stays d placed s order o size nobody tells has =
    subst (λ (ms : List Member). IsSomeAnd o (HasRoom d placed ms)) (sym (no_item order nobody))
    (enough_for_none d placed s o size tells has)

-- ---- Workspaces

stands_pushed : (ms : List Member) (m : Member) (ss : List WorkspaceFacts) (s : WorkspaceFacts) → AreWorkspacesFor ms ss
    → IsWorkspaceFor m s → AreWorkspacesFor (ms ++ m ∷ []) (ss ++ s ∷ [])
stands_pushed [] m [] s all one = (one, tt)
stands_pushed [] m (x ∷ ss) s all one = absurd all
stands_pushed (n ∷ ms) m [] s all one = absurd all
stands_pushed (n ∷ ms) m (x ∷ ss) s all one = (all.0, stands_pushed ms m ss s all.1 one)

-- who stands at the workspaces of controllers is these
pub stands_same : (ms : List Member) (ss : List WorkspaceFacts) → AreWorkspacesFor ms ss → map stands_for ss ≡ ms
stands_same [] [] all = refl
stands_same [] (x ∷ ss) all = absurd all
stands_same (m ∷ ms) [] all = absurd all
stands_same (m ∷ ms) (s ∷ ss) all =
    ap₂ (λ (first : Member) (rest : List Member). first ∷ rest)
    (ap₂ (λ a b. record { serial = a; place = b }) all.0.serial all.0.place) (stands_same ms ss all.1)

-- that of one more comes last
pub workspaces_pushed : (placed : Placed) (ms : List Member) (m : Member) (ss : List WorkspaceFacts)
    (s : WorkspaceFacts) → AreWorkspaces placed ms ss → IsWorkspaceFor m s → IsFitted placed s
    → AreWorkspaces placed (ms ++ m ∷ []) (ss ++ s ∷ [])
workspaces_pushed placed ms m ss s all one fitted = record {
  stands = stands_pushed ms m ss s all.stands one;
  fitted = all_push (IsFitted placed) ss s all.fitted fitted;
}

-- the workspaces of controllers, with these, are kept
pub kept_for : (placed : Placed) (ms : List Member) (ss : List WorkspaceFacts) (members : List Member)
    → AreWorkspaces placed ms ss → members ≡ ms → AreKept placed ss members
kept_for placed ms ss members are same =
    record { fitted = are.fitted; ordered = same ∙ sym (stands_same ms ss are.stands) }
