-- What holds of each reply that a call can have in a state.
use Rattle.std.proofs.Common.{◌≡◌, Bool, true, false, List, [], ◌∷◌, ◌++◌, Option, Some, None, subst}
use Rattle.std.specs.Prelude.{if◌then◌else◌, length, slice_get}
use Rattle.std.proofs.lemmas.Option.{same_Some}
use Rattle.cm_document.specs.declared.call.Call.{Call}
use Rattle.cm_document.specs.declared.call.Call.TheVariants.{Load, Configure, Cleanup, Unload, Rate, Send}
use Rattle.cm_document.specs.declared.call.Call.TheVariants.{Switch, Hardware, Told, Await, ListControllers}
use Rattle.cm_document.specs.declared.call.Call.TheVariants.{ListInterfaces, ListComponents, Begin, End, Close}
use Rattle.cm_model.specs.Boundary.{request_refusals, request_reply, told_of_fallbacks, boundary}
use Rattle.cm_model.specs.Boundary.{decisions_between, begin_reply, close_effect, close_reply}
use Rattle.cm_model.specs.Console.{unless_refused, place_of, controller_of, configure_refusals}
use Rattle.cm_model.specs.Console.{cleanup_refusals, unload_refusals, rate_refusals, send_refusals, reply_on}
use Rattle.cm_model.specs.Console.{configure_reply, cleanup_reply, unload_reply, rate_reply, send_reply}
use Rattle.cm_model.specs.Cycle.{cycle}
use Rattle.cm_model.specs.Machine.{load_refusals, reply_of}
use Rattle.cm_model.specs.State.{State, Loaded, controller_lines, interface_lines, component_lines}
use Rattle.cm_model.specs.declared.cause.Decision.{Decision}
use Rattle.cm_model.specs.declared.cause.Outcome.{Outcome}
use Rattle.cm_model.specs.declared.reply.Reply.{Reply}
use Rattle.cm_model.specs.declared.reply.Reply.TheVariants as reply
use Rattle.cm_model.specs.declared.reply.Why.{Why}
use Rattle.cm_model.specs.declared.reply.Why.TheVariants as why
use Rattle.switch_plan.proofs.ElementLemmas.{map_some}

-- a call that tells of decisions: a begin, or the close
abbrev pub Decides : Call → Type 0
Decides (Begin _) = Unit {0}
Decides Close = Unit {0}
Decides _ = ⊥

-- What holds of each kind of reply that a call can have.
pub record OfReplies (s : State) (call : Call) (P : Reply → Type 0) : Type 0 where
  pub refused : (reason : Why) → P (reply.Not reason)
  pub done : P reply.Done
  pub serial : P (reply.Serial s.loads)
  pub controllers : P (reply.Controllers (controller_lines s))
  pub interfaces : P (reply.Interfaces (interface_lines s))
  pub components : P (reply.Components (component_lines s))
  pub decisions : Decides call → (decisions : List Decision) → P (reply.Decisions decisions)
  pub queued : P (reply.Queued (length s.requests))
  pub became : (became : Outcome) → P (reply.Outcome became)
  pub cycle : P (reply.Cycle (cycle s).happened)

module _ (P : Reply → Type 0) (refused : (reason : Why) → P (reply.Not reason)) where
  unless_one : (applies : Bool) (reason : Why) (r : Reply) → P r → P (if applies then reply.Not reason else r)
  unless_one true reason r holds = refused reason
  unless_one false reason r holds = holds

  unless_all : (refusals : List (Bool × Why)) (r : Reply) → P r → P (unless_refused refusals r)
  unless_all [] r holds = holds
  unless_all (refusal ∷ refusals) r holds =
      unless_one refusal.0 refusal.1 (unless_refused refusals r) (unless_all refusals r holds)

  reply_on_all : (refusals : Loaded → List (Bool × Why)) (o : Option Loaded) → P reply.Done → P (reply_on refusals o)
  reply_on_all refusals None holds = refused why.NotLoaded
  reply_on_all refusals (Some l) holds = unless_all (refusals l) reply.Done holds

-- So it holds of the reply to each call.
pub of_reply : (s : State) (P : Reply → Type 0) → (call : Call) → OfReplies s call P → (r : Reply)
    → reply_of s call ≡ Some r → P r
of_reply s P (Load name) each r told =
    subst P (same_Some (unless_refused (load_refusals s (place_of s name)) (reply.Serial s.loads)) r told)
    (unless_all P each.refused (load_refusals s (place_of s name)) (reply.Serial s.loads) each.serial)
of_reply s P (Configure name) each r told =
    subst P (same_Some (configure_reply s name) r told)
    (reply_on_all P each.refused (configure_refusals s) (controller_of s name) each.done)
of_reply s P (Cleanup name) each r told =
    subst P (same_Some (cleanup_reply s name) r told)
    (reply_on_all P each.refused cleanup_refusals (controller_of s name) each.done)
of_reply s P (Unload name) each r told =
    subst P (same_Some (unload_reply s name) r told)
    (reply_on_all P each.refused unload_refusals (controller_of s name) each.done)
of_reply s P (Rate name hz) each r told =
    subst P (same_Some (rate_reply s name) r told)
    (reply_on_all P each.refused rate_refusals (controller_of s name) each.done)
of_reply s P (Send name mail) each r told =
    subst P (same_Some (send_reply s name mail) r told)
    (reply_on_all P each.refused (send_refusals s mail) (controller_of s name) each.done)
of_reply s P (Switch asked) each r told =
    subst P (same_Some (request_reply s) r told)
    (unless_all P each.refused (request_refusals s) (reply.Queued (length s.requests)) each.queued)
of_reply s P (Hardware component target) each r told =
    subst P (same_Some (request_reply s) r told)
    (unless_all P each.refused (request_refusals s) (reply.Queued (length s.requests)) each.queued)
of_reply s P (Told ticket) each r told =
    let one = map_some (λ became. reply.Outcome became) (slice_get s.outcomes ticket) r told in
    subst P one.2 (each.became one.0)
of_reply s P (Await cycles) each r told = subst P (same_Some reply.Done r told) each.done
of_reply s P ListControllers each r told =
    subst P (same_Some (reply.Controllers (controller_lines s)) r told) each.controllers
of_reply s P ListInterfaces each r told =
    subst P (same_Some (reply.Interfaces (interface_lines s)) r told) each.interfaces
of_reply s P ListComponents each r told =
    subst P (same_Some (reply.Components (component_lines s)) r told) each.components
of_reply s P (Begin number) each r told =
    subst P (same_Some (begin_reply s) r told)
    (each.decisions tt (told_of_fallbacks s s.fallbacks ++ decisions_between s (boundary s)))
of_reply s P (End number) each r told = subst P (same_Some (reply.Cycle (cycle s).happened) r told) each.cycle
of_reply s P Close each r told =
    subst P (same_Some (close_reply s) r told) (each.decisions tt (decisions_between s (close_effect s)))
