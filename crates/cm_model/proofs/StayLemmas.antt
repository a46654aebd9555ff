-- What a step leaves as it is.
use Rattle.std.proofs.Common.{◌≡◌, ℕ, List, [], ◌∷◌, Option, Some, None, Bool, true, false, refl, ◌∙◌}
use Rattle.std.specs.Prelude.{if◌then◌else◌, option_map, slice_get}
use Rattle.std.proofs.lemmas.Option.{same_Some}
use Rattle.cm_document.specs.declared.call.Call.{Call}
use Rattle.cm_document.specs.declared.call.Call.TheVariants.{Load, Configure, Cleanup, Unload, Rate}
use Rattle.cm_document.specs.declared.call.Call.TheVariants.{Send, Switch, Hardware, Begin, End, Close}
use Rattle.cm_document.specs.declared.description.CtlDesc.{CtlDesc}
use Rattle.cm_model.specs.Boundary.{waiting, standing_in, after_standing_in, after_fallbacks, request_effect}
use Rattle.cm_model.specs.Boundary.{Concluded, with_switch, component_place, move_fault, with_move_unless}
use Rattle.cm_model.specs.Boundary.{with_move, concluded, with_outcome, all_concluded, boundary}
use Rattle.cm_model.specs.BestEffort.{decided}
use Rattle.cm_model.specs.Commit.{scene_of, commit}
use Rattle.cm_model.specs.Console.{place_of, slot_of, where_done, with_slot, with_changed, without_slot}
use Rattle.cm_model.specs.Console.{after_configure, after_cleanup, after_rate, after_send}
use Rattle.cm_model.specs.Cycle.{after_cycle}
use Rattle.cm_model.specs.Histories.{SameLoop}
use Rattle.cm_model.specs.Machine.{is_enabled, reply_of, with_controller}
use Rattle.cm_model.specs.Machine.{with_loaded, load_effect, effect, answered, step}
use Rattle.cm_model.specs.Sessions.{IsConsole}
use Rattle.cm_model.specs.State.{State, Loaded}
use Rattle.cm_model.specs.Order.{Places}
use Rattle.cm_model.specs.Switches.{Decided, refused, done}
use Rattle.cm_document.specs.declared.life.Life.{Life}
use Rattle.cm_model.specs.declared.cause.Cause.{Cause}
use Rattle.cm_model.specs.declared.request.Request.{Request}
use Rattle.cm_model.specs.declared.request.Request.TheVariants as request
use Rattle.cm_model.specs.declared.reply.Reply.{Reply}
use Rattle.cm_model.specs.declared.reply.Reply.TheVariants as reply

-- ---- Console calls

pub same : (s : State) → SameLoop s s
same s = record { sessions = refl; description = refl; ended = refl; aloft = refl; closed = refl }

pub same-trans : (s after last : State) → SameLoop s after → SameLoop after last → SameLoop s last
same-trans s after last first second = record {
  sessions = second.sessions ∙ first.sessions;
  description = second.description ∙ first.description;
  ended = second.ended ∙ first.ended;
  aloft = second.aloft ∙ first.aloft;
  closed = second.closed ∙ first.closed;
}

with_controller-SameLoop : (s : State) (place : ℕ) (o : Option CtlDesc) → SameLoop s (with_controller s place o)
with_controller-SameLoop s place None = same s
with_controller-SameLoop s place (Some c) =
    record { sessions = refl; description = refl; ended = refl; aloft = refl; closed = refl }

with_loaded-SameLoop : (s : State) (place : Option ℕ) → SameLoop s (with_loaded s place)
with_loaded-SameLoop s None = same s
with_loaded-SameLoop s (Some place) = with_controller-SameLoop s place (slice_get s.description.controllers place)

-- a load leaves the loop as it is
load_effect-SameLoop : (s : State) (name : List ℕ) (r : Reply) → SameLoop s (load_effect s name r)
load_effect-SameLoop s name (reply.Serial _) = with_loaded-SameLoop s (place_of s name)
load_effect-SameLoop s name _ = same s

-- a call on one loaded controller leaves the loop as it is
with_slot-SameLoop : (s : State) (i : ℕ) (o : Option Loaded) → SameLoop s (with_slot s i o)
with_slot-SameLoop s i None = same s
with_slot-SameLoop s i (Some l) =
    record { sessions = refl; description = refl; ended = refl; aloft = refl; closed = refl }

with_changed-SameLoop : (change : Loaded → Loaded) (s : State) (slot : Option ℕ)
    → SameLoop s (with_changed change s slot)
with_changed-SameLoop change s None = same s
with_changed-SameLoop change s (Some i) = with_slot-SameLoop s i (option_map change (slice_get s.loaded i))

without_slot-SameLoop : (s : State) (slot : Option ℕ) → SameLoop s (without_slot s slot)
without_slot-SameLoop s None = same s
without_slot-SameLoop s (Some i) =
    record { sessions = refl; description = refl; ended = refl; aloft = refl; closed = refl }

where_done-SameLoop : (s after : State) (r : Reply) → SameLoop s after → SameLoop s (where_done r after s)
where_done-SameLoop s after reply.Done stays = stays
where_done-SameLoop s after _ stays = same s

-- a request that waits leaves the loop as it is
request_effect-SameLoop : (s : State) (asked : Request) (r : Reply) → SameLoop s (request_effect s asked r)
request_effect-SameLoop s asked (reply.Queued _) =
    record { sessions = refl; description = refl; ended = refl; aloft = refl; closed = refl }
request_effect-SameLoop s asked _ = same s

-- no console call changes the loop
pub effect-SameLoop : (s : State) (call : Call) (r : Reply) → IsConsole call → SameLoop s (effect s call r)
effect-SameLoop s (Load name) r console = load_effect-SameLoop s name r
effect-SameLoop s (Configure name) r console =
    where_done-SameLoop s _ r (with_changed-SameLoop (after_configure s) s (slot_of s name))
effect-SameLoop s (Cleanup name) r console =
    where_done-SameLoop s _ r (with_changed-SameLoop after_cleanup s (slot_of s name))
effect-SameLoop s (Unload name) r console = where_done-SameLoop s _ r (without_slot-SameLoop s (slot_of s name))
effect-SameLoop s (Rate name hz) r console =
    where_done-SameLoop s _ r (with_changed-SameLoop (after_rate hz) s (slot_of s name))
effect-SameLoop s (Send name mail) r console =
    where_done-SameLoop s _ r (with_changed-SameLoop (after_send mail) s (slot_of s name))
effect-SameLoop s (Switch asked) r console = request_effect-SameLoop s (request.Switch asked) r
effect-SameLoop s (Hardware component target) r console =
    request_effect-SameLoop s (request.Hardware component target) r
effect-SameLoop s (Begin _) r console = absurd console
effect-SameLoop s (End _) r console = absurd console
effect-SameLoop s Close r console = absurd console
effect-SameLoop s _ r console = same s

-- ---- Requests that are decided

commit-SameLoop : (s : State) (set again : Places) → SameLoop s (commit s set again)
unfolding commit
commit-SameLoop s set again = record { sessions = refl; description = refl; ended = refl; aloft = refl; closed = refl }

with_switch-SameLoop : (s : State) (d : Decided) → SameLoop s (with_switch s d).state
with_switch-SameLoop s (refused because) = same s
with_switch-SameLoop s (done dropped set again) = commit-SameLoop s set again

with_move_unless-SameLoop : (s : State) (name : List ℕ) (component : ℕ) (target : Life) (fault : Option Cause)
    → SameLoop s (with_move_unless s name component target fault).state
with_move_unless-SameLoop s name component target (Some fault) = same s
with_move_unless-SameLoop s name component target None =
    record { sessions = refl; description = refl; ended = refl; aloft = refl; closed = refl }

with_move-SameLoop : (s : State) (name : List ℕ) (target : Life) (place : Option ℕ)
    → SameLoop s (with_move s name target place).state
with_move-SameLoop s name target None = same s
with_move-SameLoop s name target (Some component) =
    with_move_unless-SameLoop s name component target (move_fault s component target)

concluded-SameLoop : (s : State) (asked : Request) → SameLoop s (concluded s asked).state
concluded-SameLoop s (request.Switch asked) = with_switch-SameLoop s (decided (scene_of s) asked)
concluded-SameLoop s (request.Hardware component target) =
    with_move-SameLoop s component target (component_place s.description component)

outcome-SameLoop : (s : State) (d : Concluded) → SameLoop s d.state → SameLoop s (with_outcome d)
outcome-SameLoop s d loop =
    record {
      sessions = loop.sessions;
      description = loop.description;
      ended = loop.ended;
      aloft = loop.aloft;
      closed =
          loop.closed;
    }

all_concluded-SameLoop : (s : State) (requests : List Request) → SameLoop s (all_concluded s requests)
unfolding all_concluded
all_concluded-SameLoop s [] = same s
all_concluded-SameLoop s (asked ∷ requests) =
    let next = with_outcome (concluded s asked) in
    same-trans s next _ (outcome-SameLoop s (concluded s asked) (concluded-SameLoop s asked))
    (all_concluded-SameLoop next requests)

-- so do those that stand in
standing-SameLoop : (s : State) (names : List (List ℕ)) → SameLoop s (after_standing_in s names)
standing-SameLoop s [] = same s
standing-SameLoop s (name ∷ names) =
    let stood = concluded-SameLoop (record s { fallbacks = [] }) (standing_in (name ∷ names)) in
    record {
      sessions = stood.sessions;
      description = stood.description;
      ended = stood.ended;
      aloft =
          stood.aloft;
      closed = stood.closed;
    }

-- what is decided between two cycles leaves the loop as it is
pub boundary-SameLoop : (s : State) → SameLoop s (boundary s)
boundary-SameLoop s =
    same-trans s (after_fallbacks s) _ (standing-SameLoop s s.fallbacks)
    (all_concluded-SameLoop (after_fallbacks s) (waiting (after_fallbacks s)))

-- ---- Steps

-- what no step changes
pub record Stands (s after : State) : Type 0 where
  pub sessions : after.sessions ≡ s.sessions
  pub description : after.description ≡ s.description

stands : (s after : State) → SameLoop s after → Stands s after
stands s after loop = record { sessions = loop.sessions; description = loop.description }

pub effect-Stands : (s : State) (call : Call) (r : Reply) → Stands s (effect s call r)
unfolding after_cycle commit
effect-Stands s (Begin _) r =
    let stays = boundary-SameLoop s in record { sessions = stays.sessions; description = stays.description }
effect-Stands s (End _) r = record { sessions = refl; description = refl }
effect-Stands s Close r = record { sessions = refl; description = refl }
effect-Stands s (Switch asked) r = stands s _ (request_effect-SameLoop s (request.Switch asked) r)
effect-Stands s (Hardware component target) r =
    stands s _ (request_effect-SameLoop s (request.Hardware component target) r)
effect-Stands s (Load name) r = stands s _ (load_effect-SameLoop s name r)
effect-Stands s (Configure name) r = stands s _ (effect-SameLoop s (Configure name) r tt)
effect-Stands s (Cleanup name) r = stands s _ (effect-SameLoop s (Cleanup name) r tt)
effect-Stands s (Unload name) r = stands s _ (effect-SameLoop s (Unload name) r tt)
effect-Stands s (Rate name hz) r = stands s _ (effect-SameLoop s (Rate name hz) r tt)
effect-Stands s (Send name mail) r = stands s _ (effect-SameLoop s (Send name mail) r tt)
effect-Stands s _ r = record { sessions = refl; description = refl }

-- what a step is made of: the reply is that of the call, and the state what the reply leaves
pub record IsStep (s : State) (call : Call) (reached : State × Reply) : Type 0 where
  pub replied : reply_of s call ≡ Some reached.1
  pub next : reached.0 ≡ effect s call reached.1

answered-IsStep : (s : State) (call : Call) (o : Option Reply) (reached : State × Reply) → reply_of s call ≡ o
    → option_map (answered s call) o ≡ Some reached → IsStep s call reached
answered-IsStep s call None reached replied stepped = cc
answered-IsStep s call (Some r) reached replied stepped =
    let same = same_Some _ _ stepped in rw (← same) (record { replied = replied; next = refl })

pub step-IsStep : (s : State) (who : ℕ) (call : Call) (reached : State × Reply) → step s who call ≡ Some reached
    → IsStep s call reached
unfolding step
step-IsStep s who call reached stepped = tested (is_enabled s who call) stepped
  where
    tested : (b : Bool) → (if b then option_map (answered s call) (reply_of s call) else None) ≡ Some reached
        → IsStep s call reached
    tested true made = answered-IsStep s call (reply_of s call) reached refl made
    tested false made = cc

-- no step changes the description or the number of sessions
pub step-Stands : (s : State) (who : ℕ) (call : Call) (reached : State × Reply) → step s who call ≡ Some reached
    → Stands s reached.0
step-Stands s who call reached stepped =
    let is = step-IsStep s who call reached stepped in rw is.next (effect-Stands s call reached.1)
