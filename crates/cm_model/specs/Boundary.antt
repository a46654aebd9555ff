-- Between two cycles: those are asked for that stand in for a controller whose update failed; then the requests that
-- wait are decided, one after the other; and mail goes aloft with the cycle that begins.
use Rattle.std.specs.Prelude.{ℕ, ◌+◌, ◌==◌, nat_le, nat_lt, Bool, true, false, not, if◌then◌else◌, List, [], ◌∷◌}
use Rattle.std.specs.Prelude.{◌++◌, length, map, drop, find, position, slice_get, slice_index_or, slice_set, Option}
use Rattle.std.specs.Prelude.{Some, None, option_map}
use Rattle.std.specs.Option.{option_or}
use Rattle.iface_names.specs.Names.{same_name}
use Rattle.cm_document.specs.declared.call.Pick.TheVariants.{One}
use Rattle.cm_document.specs.declared.description.Description.{Description}
use Rattle.cm_document.specs.declared.life.Life.{Life}
use Rattle.cm_document.specs.declared.life.Life.TheVariants.{Unconfigured}
use Rattle.cm_model.specs.BestEffort.{decided}
use Rattle.cm_model.specs.Claims.{uses}
use Rattle.cm_model.specs.Commit.{scene_of, described_of, commit}
use Rattle.cm_model.specs.Components.{is_available, has_move}
use Rattle.cm_model.specs.Console.{unless_refused}
use Rattle.cm_model.specs.Cycle.{active_order, moved, begun}
use Rattle.cm_model.specs.Faults.{cause_if}
use Rattle.cm_model.specs.State.{State}
use Rattle.cm_model.specs.Switches.{Decided, refused, done}
use Rattle.cm_model.specs.declared.TheConstants.{MOST_WAITING}
use Rattle.cm_model.specs.declared.cause.Cause.{Cause}
use Rattle.cm_model.specs.declared.cause.Cause.TheVariants as cause
use Rattle.cm_model.specs.declared.cause.Decision.{Decision}
use Rattle.cm_model.specs.declared.cause.Outcome.{Outcome}
use Rattle.cm_model.specs.declared.cause.Outcome.TheVariants as outcome
use Rattle.cm_model.specs.declared.reply.Reply.{Reply}
use Rattle.cm_model.specs.declared.reply.Reply.TheVariants as reply
use Rattle.cm_model.specs.declared.reply.Why.{Why}
use Rattle.cm_model.specs.declared.reply.Why.TheVariants as why
use Rattle.cm_model.specs.declared.request.Request.{Request}
use Rattle.cm_model.specs.declared.request.Request.TheVariants as request

-- ---- Requests that wait

-- the requests without an outcome, in the order of their tickets
abbrev pub waiting : State → List Request
waiting s = drop (length s.outcomes) s.requests

-- as many wait as can wait
abbrev pub is_full : State → Bool
is_full s = nat_le MOST_WAITING (length (waiting s))

-- A request is not taken once the loop is closed, nor where as many wait as can wait.
abbrev pub request_refusals : State → List (Bool × Why)
request_refusals s = (s.closed, why.LoopEnded) ∷ (is_full s, why.QueueFull) ∷ []

-- Else it waits under the next ticket.
abbrev pub request_reply : State → Reply
request_reply s = unless_refused (request_refusals s) (reply.Queued (length s.requests))

-- what a request that was answered so leaves
abbrev pub request_effect : State → Request → Reply → State
request_effect s asked (reply.Queued ticket) = record s { requests = s.requests ++ asked ∷ [] }
request_effect s asked _ = s

-- a request is decided where it has an outcome
abbrev pub is_decided : State → ℕ → Bool
is_decided s ticket = nat_lt ticket (length s.outcomes)

-- the answer of who asks what became of a request
abbrev pub told_reply : State → ℕ → Option Reply
told_reply s ticket = option_map (λ became. reply.Outcome became) (slice_get s.outcomes ticket)

-- ---- A request, decided in the state that the one before it left

-- A request that was concluded: the state after it, and what became of it.
pub record Concluded : Type 0 where
  pub state : State
  pub outcome : Outcome

-- a refused switch changes nothing; one that is done makes its set the active one
abbrev pub with_switch : State → Decided → Concluded
with_switch s (refused because) = record { state = s; outcome = outcome.Refused because.name because.cause }
with_switch s (done dropped set again) = record { state = commit s set again; outcome = outcome.Done dropped }

-- the place of the component of this name
abbrev pub component_place : Description → List ℕ → Option ℕ
component_place d name = position (λ component. same_name component.name name) d.components

-- the first active controller by order that uses the component, by its name
abbrev pub user_of : State → ℕ → Option (List ℕ)
user_of s component =
    option_map (λ l. (described_of s l).name)
    (find (λ l. uses s.description.components (λ place. place == component) (described_of s l)) (active_order s))

-- the lifecycle state of the component at this place
abbrev pub life_at : State → ℕ → Life
life_at s component = slice_index_or s.lives component Unconfigured

-- Why a component is not brought to a state: there is no such move; or an active controller uses it, and its interfaces
-- would not be available.
abbrev pub move_fault : State → ℕ → Life → Option Cause
move_fault s component target =
    option_or (cause_if (not (has_move (life_at s component) target)) cause.NoSuchMove)
    (if is_available target then None else option_map (λ name. cause.InUse name) (user_of s component))

-- the component comes to its target, where nothing speaks against it
abbrev pub with_move_unless : State → List ℕ → ℕ → Life → Option Cause → Concluded
with_move_unless s name component target (Some reason) = record { state = s; outcome = outcome.Refused name reason }
with_move_unless s name component target None = record {
  state = moved s (slice_set s.lives component target);
  outcome = outcome.Done [];
}

-- a request of a component that is described, or of one that is not
abbrev pub with_move : State → List ℕ → Life → Option ℕ → Concluded
with_move s name target None = record { state = s; outcome = outcome.Refused name cause.Unknown }
with_move s name target (Some component) = with_move_unless s name component target (move_fault s component target)

-- What becomes of a request in a state.
abbrev pub concluded : State → Request → Concluded
concluded s (request.Switch switch) = with_switch s (decided (scene_of s) switch)
concluded s (request.Hardware component target) = with_move s component target (component_place s.description component)

-- ---- All that wait

-- with its outcome behind those before it
abbrev pub with_outcome : Concluded → State
with_outcome conclusion = record conclusion.state { outcomes = conclusion.state.outcomes ++ conclusion.outcome ∷ [] }

-- these are decided one after the other, each in the state that the one before it left
unfoldable pub all_concluded : State → List Request → State
all_concluded s [] = s
all_concluded s (asked ∷ later) = all_concluded (with_outcome (concluded s asked)) later

-- ---- Those that stand in

-- what is asked for those that are to stand in: that as many of them become active as can
abbrev pub standing_in : List (List ℕ) → Request
standing_in names = request.Switch (record { on = map One names; off = []; strict = false })

-- what becomes of them, in a state in which nobody is to stand in any more
abbrev pub stood_in : State → List (List ℕ) → Concluded
stood_in s names = concluded (record s { fallbacks = [] }) (standing_in names)

-- the state after that; where nobody is to stand in it is the same
abbrev pub after_standing_in : State → List (List ℕ) → State
after_standing_in s [] = s
after_standing_in s (name ∷ names) = (stood_in s (name ∷ names)).state

-- the state in which the requests are decided
abbrev pub after_fallbacks : State → State
after_fallbacks s = after_standing_in s s.fallbacks

-- what is told of it: one decision, without a ticket
abbrev pub told_of_fallbacks : State → List (List ℕ) → List Decision
told_of_fallbacks s [] = []
told_of_fallbacks s (name ∷ names) = record {
  ticket = None;
  outcome = (stood_in s (name ∷ names)).outcome;
} ∷ []

-- ---- All of it

-- The state after all that waited is decided: those that stand in first, and then the requests in the order of their
-- tickets.
abbrev pub boundary : State → State
boundary s = all_concluded (after_fallbacks s) (waiting (after_fallbacks s))

-- outcomes by ticket, the first of which has this one
abbrev pub decisions_from : ℕ → List Outcome → List Decision
decisions_from ticket [] = []
decisions_from ticket (became ∷ later) = record {
  ticket = Some ticket;
  outcome = became;
} ∷ decisions_from (ticket + 1) later

-- what became of requests on the way from one state to another, by ticket
abbrev pub decisions_between : State → State → List Decision
decisions_between before after = decisions_from (length before.outcomes) (drop (length before.outcomes) after.outcomes)

-- ---- The begin of a cycle

-- What a begin leaves: all that waited is decided, and the mail of those that are due is aloft.
abbrev pub begin_effect : State → State
begin_effect s = begun (boundary s)

-- The answer to a begin: what was decided.
abbrev pub begin_reply : State → Reply
begin_reply s = reply.Decisions (told_of_fallbacks s s.fallbacks ++ decisions_between s (boundary s))

-- ---- The close

-- each request that waits is ended with the loop
abbrev pub close_effect : State → State
close_effect s = record s { outcomes = s.outcomes ++ map (λ asked. outcome.LoopEnded) (waiting s); closed = true }

-- the answer to the close: that of each
abbrev pub close_reply : State → Reply
close_reply s = reply.Decisions (decisions_between s (close_effect s))
