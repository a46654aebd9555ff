-- What a call of a desk's console leaves of its ground.
use Rattle.std.proofs.Common.{◌≡◌, ℕ, Bool, true, false, Option, Some, None, refl, ap}
use Rattle.std.specs.Prelude.{MatchOption}
use Rattle.cm_document.specs.declared.call.Call.{Call}
use Rattle.cm_document.specs.declared.call.Call.TheVariants.{Told, Await}
use Rattle.cm_model.specs.Sessions.{IsConsole}
use Rattle.cm_model.specs.State.{State}
use Rattle.cm_model.specs.declared.cause.Outcome.{Outcome}
use Rattle.cm_model.specs.declared.reply.Reply.{Reply}
use Rattle.cm_model.specs.declared.reply.Reply.TheVariants as reply
use Rattle.cm_desk.specs.Desk.{History, begun_of, now_of, Grows, Waits, GrowsWhere}
use Rattle.cm_desk.proofs.BegunLemmas.{called_alike}
use Rattle.desk_turns.specs.Ports.{DeskGround, ground_of}

same_ground : (lent who : ℕ) (s s' : State) (begun begun' : Option State) (aloft aloft' : Bool) → s ≡ s'
    → begun ≡ begun' → aloft ≡ aloft'
    → ◌≡◌ {A = DeskGround} (record { lent = lent; who = who; opening = s; begun = begun; aloft = aloft })
    (record { lent = lent; who = who; opening = s'; begun = begun'; aloft = aloft' })
same_ground lent who s s' begun begun' aloft aloft' e f g = rw (e, f, g) refl

-- a call of a console leaves the ground,
pub ground_kept : (lent who : ℕ) (old new : History) (call : Call) (r : Reply) → IsConsole call
    → Grows old new who call r → ground_of lent who new ≡ ground_of lent who old
ground_kept lent who old new call r between grows =
    let alike = called_alike old new who call r between grows in
    same_ground lent who new.opening old.opening (begun_of new) (begun_of old) (now_of new).aloft (now_of old).aloft
    grows.opening alike.begun alike.aloft

-- and so does what is told of a ticket, and an await, whether it waits or not
pub ground_told : (lent who ticket : ℕ) (old new : History) (outcome : Option Outcome)
    → MatchOption outcome (Waits old new who (Told ticket)) (λ o. Grows old new who (Told ticket) (reply.Outcome o))
    → ground_of lent who new ≡ ground_of lent who old
ground_told lent who ticket old new None waits = ap (ground_of lent who) waits.1
ground_told lent who ticket old new (Some o) grows =
    ground_kept lent who old new (Told ticket) (reply.Outcome o) tt grows

pub ground_reached : (lent who cycles : ℕ) (old new : History) (reached : Bool)
    → GrowsWhere reached old new who (Await cycles) reply.Done
    → ground_of lent who new ≡ ground_of lent who old
ground_reached lent who cycles old new true grows = ground_kept lent who old new (Await cycles) reply.Done tt grows
ground_reached lent who cycles old new false waits = ap (ground_of lent who) waits.1
