-- What is promised of every legal history, in five parts: loans are exclusive and present; each due controller runs
-- once, predecessors first; one configuration holds from a begin to its end; each request is decided once, and a strict
-- switch whole or not at all, with a cause that is true; an unload leaves nothing behind.
use Rattle.std.specs.Prelude.{◌≡◌, ℕ, ◌==◌, Bool, true, false, not, ◌&&◌, ◌||◌, List, [], ◌∷◌, ◌++◌, map, find, Option}
use Rattle.std.specs.Prelude.{if◌then◌else◌, length, filter, flat_map, Some, None, option_map, is_some, IfSome}
use Rattle.std.specs.List.{list_any, AllByRecursion, IsDistinct}
use Rattle.std.specs.Option.{option_map_or}
use Rattle.fixed_num.specs.declared.value.BodyState.{BodyState}
use Rattle.cm_document.specs.declared.call.Call.{Call}
use Rattle.cm_document.specs.declared.call.Call.TheVariants as call
use Rattle.cm_document.specs.declared.call.Pick.TheVariants.{One}
use Rattle.cm_document.specs.declared.description.Description.{Description}
use Rattle.cm_document.specs.declared.life.Life.{Life}
use Rattle.cm_model.specs.Boundary.{waiting, decisions_from}
use Rattle.cm_model.specs.Components.{is_listed}
use Rattle.cm_model.specs.Console.{controller_of}
use Rattle.cm_model.specs.Cycle.{active_order, is_due_now, is_held_off, is_error, fallbacks_of, cycle}
use Rattle.cm_model.specs.Deciding.{lasting, IsDoneInPart, AreDecided}
pub use Rattle.cm_model.specs.Loans.{names_at, reads_at, is_there, CanRunTogether, is_number, IsEmptyUnless}
pub use Rattle.cm_model.specs.Loans.{IsUnsetUnlessClaimed, IsMarked, LoansHold}
use Rattle.cm_model.specs.Machine.{step}
use Rattle.cm_model.specs.Order.{precedes_at}
use Rattle.cm_model.specs.State.{State, Loaded, MailAloft, boot, is_active}
use Rattle.cm_model.specs.Values.{InterfaceValue}
use Rattle.cm_model.specs.declared.blanks.Blanks.{Blanks}
use Rattle.cm_model.specs.declared.cause.Decision.{Decision}
use Rattle.cm_model.specs.declared.cause.Dropped.{Dropped}
use Rattle.cm_model.specs.declared.cause.Outcome.{Outcome}
use Rattle.cm_model.specs.declared.cause.Outcome.TheVariants as outcome
use Rattle.cm_model.specs.declared.data.CtlData.{CtlData}
use Rattle.cm_model.specs.declared.entry.Entry.{Entry}
use Rattle.cm_model.specs.declared.reply.Reply.{Reply}
use Rattle.cm_model.specs.declared.reply.Reply.TheVariants as reply

-- ---- Histories, moment by moment

-- One call of a history: the state before it, the call, its reply, and the state after it.
pub record Moment : Type 0 where
  pub before : State
  pub call : Call
  pub reply : Reply
  pub after : State

-- the moments of a history that begins in this state
abbrev pub moments : State → List Entry → List Moment
moments s [] = []
moments s (e ∷ es) = elim (step s e.who e.call) [
  | None ↦ []
  | Some made ↦ record { before = s; call = e.call; reply = e.reply; after = made.0 } ∷ moments made.0 es
]

-- ---- First: loans are exclusive and present

-- Loans are exclusive and present after each call.
abbrev pub LoansAlwaysHold : List Moment → Type 0
LoansAlwaysHold moments = AllByRecursion (λ moment. LoansHold moment.after) moments

-- ---- Second: each due controller runs once, predecessors first

-- it is to be updated in the cycle that is aloft: it is active and due, and uses no component whose read failed
abbrev pub is_to_run : State → Loaded → Bool
is_to_run s l = (is_active l && is_due_now s l) && not (is_held_off s l)

-- the loaded controller of the first serial precedes that of the second
abbrev pub serial_precedes : State → ℕ → ℕ → Bool
serial_precedes s first second =
    list_any
    (λ l. l.serial == first
    && list_any (λ other. other.serial == second && precedes_at s.description.controllers l.place other.place)
    s.loaded) s.loaded

-- of these serials none is followed, at whatever distance, by one that it clashes with
abbrev pub NoneLater : (ℕ → ℕ → Bool) → List ℕ → Type 0
NoneLater clash [] = Unit {0}
NoneLater clash (n ∷ ns) = AllByRecursion (λ later. clash n later ≡ false) ns × NoneLater clash ns

-- Of the controllers that a cycle updated:
pub record EachRunsOnce (s : State) (ran : List ℕ) : Type 0 where
  -- they are those that were to be updated,
  pub exactly : (serial : ℕ) → is_listed ran serial ≡ list_any (λ l. l.serial == serial && is_to_run s l) s.loaded
  -- each stands there once,
  pub once : IsDistinct (λ n k. n == k) ran
  -- and none comes after one that it precedes.
  pub predecessors_first : NoneLater (λ n later. serial_precedes s later n) ran

-- that holds of the record of a cycle; no other reply has one
abbrev pub RecordIsRight : State → Reply → Type 0
RecordIsRight s (reply.Cycle happened) = EachRunsOnce s (map (λ ran. ran.serial) happened.ran)
RecordIsRight s _ = Unit {0}

-- In each cycle each due controller runs once, predecessors first.
abbrev pub EachDueOneRunsOnce : List Moment → Type 0
EachDueOneRunsOnce moments = AllByRecursion (λ moment. RecordIsRight moment.before moment.reply) moments

-- ---- Third: one configuration from a begin to its end

-- an active controller, as a cycle updates it
pub record Running : Type 0 where
  pub serial : ℕ
  pub place : ℕ
  pub divisor : Option ℕ
  pub ctl : CtlData

abbrev pub running_part : Loaded → Running
running_part l = record { serial = l.serial; place = l.place; divisor = l.divisor; ctl = l.ctl }

-- What a cycle runs under: the active controllers in the order of their updates, with their running parts and divisors;
-- the mail that went aloft; the lifecycle states of the components; the bodies; what the interfaces hold.
pub record Configuration : Type 0 where
  pub running : List Running
  pub mails : List MailAloft
  pub lives : List Life
  pub bodies : List BodyState
  pub values : List InterfaceValue

abbrev pub configuration : State → Configuration
configuration s = record {
  running = map running_part (active_order s);
  mails = s.mails;
  lives = s.lives;
  bodies = s.bodies;
  values = s.values;
}

-- where a cycle has begun, and left this state: its end tells what the cycle of that state makes, and any other call
-- leaves the configuration as it is
abbrev pub IsAsBegun : State → Moment → Call → Type 0
IsAsBegun begun moment (call.End _) = moment.reply ≡ reply.Cycle (cycle begun).happened
IsAsBegun begun moment _ = configuration moment.after ≡ configuration begun

-- the state that the cycle left at its begin which is aloft after this call
abbrev pub aloft_after : Option State → Moment → Call → Option State
aloft_after begun moment (call.Begin _) = Some moment.after
aloft_after begun moment (call.End _) = None
aloft_after begun moment _ = begun

-- From a begin to its end the configuration stays, and the end tells of it.
abbrev pub OneConfigurationFrom : Option State → List Moment → Type 0
OneConfigurationFrom begun [] = Unit {0}
OneConfigurationFrom begun (moment ∷ moments) =
    IfSome begun (λ s. IsAsBegun s moment moment.call)
    × OneConfigurationFrom (aloft_after begun moment moment.call) moments

abbrev pub OneConfigurationEach : List Moment → Type 0
OneConfigurationEach moments = OneConfigurationFrom None moments

-- ---- Fourth: each request is decided once, and a strict switch whole or not at all

-- what a reply tells of decided requests
abbrev pub decisions_in : Reply → List Decision
decisions_in (reply.Decisions decisions) = decisions
decisions_in _ = []

-- the decisions that have a ticket
abbrev pub ticketed : List Decision → List Decision
ticketed decisions = filter (λ decision. is_some decision.ticket) decisions

-- what it tells that became of requests, in order
abbrev pub outcomes_in : Reply → List Outcome
outcomes_in r = map (λ decision. decision.outcome) (ticketed (decisions_in r))

-- the decision is of this ticket
abbrev pub is_of_ticket : ℕ → Decision → Bool
is_of_ticket ticket decision = option_map_or (λ own. own == ticket) decision.ticket false

-- the outcome that was told of a ticket
abbrev pub outcome_of : List Decision → ℕ → Option Outcome
outcome_of decisions ticket = option_map (λ decision. decision.outcome) (find (is_of_ticket ticket) decisions)

-- who asks for a ticket is told the outcome that a begin or the close has told
abbrev pub IsToldRightly : List Decision → Call → Reply → Type 0
IsToldRightly so_far (call.Told ticket) r =
    option_map (λ became. reply.Outcome became) (outcome_of so_far ticket) ≡ Some r
IsToldRightly so_far _ r = Unit {0}

-- After these decisions were told: with those of this call they are, by ticket, the outcomes of all requests that have
-- one; and who asks is told so.
pub record TicketsAreRight (so_far : List Decision) (moment : Moment) : Type 0 where
  pub each_once : so_far ++ ticketed (decisions_in moment.reply) ≡ decisions_from 0 moment.after.outcomes
  pub told : IsToldRightly so_far moment.call moment.reply

abbrev pub TicketsFrom : List Decision → List Moment → Type 0
TicketsFrom so_far [] = Unit {0}
TicketsFrom so_far (moment ∷ moments) =
    TicketsAreRight so_far moment × TicketsFrom (so_far ++ ticketed (decisions_in moment.reply)) moments

-- Those that were to stand in were asked for, from one state to the next, as by a switch of best effort that
-- deactivates none. What no request changes is as it was, and nobody waits to stand in any more.
pub record HaveStoodIn (before : State) (names : List (List ℕ)) (after : State) : Type 0 where
  pub switched : IsDoneInPart (record before { fallbacks = [] })
      (record { on = map One names; off = []; strict = false }) after
  pub same : lasting after ≡ lasting (record before { fallbacks = [] })
  pub outcomes : after.outcomes ≡ before.outcomes

-- where nobody was to stand in nothing happened
abbrev pub AreStoodIn : State → List (List ℕ) → State → Type 0
AreStoodIn before [] after = after ≡ before
AreStoodIn before (name ∷ names) after = HaveStoodIn before (name ∷ names) after

-- from this state the requests that waited were decided, with the outcomes that are told, to the state after it
abbrev pub DecidesFrom : State → Moment → Type 0
DecidesFrom stood moment = AreDecided stood (waiting moment.before) (outcomes_in moment.reply) moment.after

-- A begin asks for those that are to stand in, and then decides the requests that waited, one after the other, with the
-- outcomes that it tells, and so comes to the state after it.
abbrev pub DecidesRightly : Moment → Call → Type 0
DecidesRightly moment (call.Begin _) =
    (stood : State) × AreStoodIn moment.before moment.before.fallbacks stood × DecidesFrom stood moment
DecidesRightly moment _ = Unit {0}

-- Where fallbacks are owed, the first decision has no ticket and is done, and the others have one. Else all have one.
abbrev pub IsLed : Bool → List Decision → Type 0
IsLed true [] = ⊥
IsLed true (d ∷ ds) =
    (d.ticket ≡ None) × ((dropped : List Dropped) × (d.outcome ≡ outcome.Done dropped)) × (ticketed ds ≡ ds)
IsLed false ds = ticketed ds ≡ ds

-- Where these fallbacks are owed: a begin asks for these and no others, and tells of them first, if there are any. No
-- other call tells of any.
abbrev pub IsLedAt : List (List ℕ) → Moment → Call → Type 0
IsLedAt owed moment (call.Begin _) =
    (moment.before.fallbacks ≡ owed) × IsLed (not (length owed == 0)) (decisions_in moment.reply)
IsLedAt owed moment _ = IsLed false (decisions_in moment.reply)

-- the fallbacks that the record of a cycle calls for: of each controller whose update failed those that are described
abbrev pub called_for : State → Reply → List (List ℕ)
called_for s (reply.Cycle happened) =
    flat_map (λ ran. if is_error ran.done then fallbacks_of s ran.serial else []) happened.ran
called_for s _ = []

-- those that are owed after this call: an end owes what its record calls for, and the begin behind it asks for them
abbrev pub owed_after : List (List ℕ) → Moment → Call → List (List ℕ)
owed_after owed moment (call.Begin _) = []
owed_after owed moment (call.End _) = called_for moment.before moment.reply
owed_after owed moment _ = owed

-- Fallbacks are asked for by the begin behind an end that owes them, and by no other call.
abbrev pub LedFrom : List (List ℕ) → List Moment → Type 0
LedFrom owed [] = Unit {0}
LedFrom owed (moment ∷ moments) =
    IsLedAt owed moment moment.call × LedFrom (owed_after owed moment moment.call) moments

-- Each ticket is decided once, and told so; each begin decides rightly; fallbacks are asked for where they are owed.
pub record RequestsAreDecidedOnce (moments : List Moment) : Type 0 where
  pub tickets : TicketsFrom [] moments
  pub whole : AllByRecursion (λ moment. DecidesRightly moment moment.call) moments
  pub fallbacks : LedFrom [] moments

-- ---- Fifth: an unload leaves nothing behind

-- the reply names the controller of this serial
abbrev pub mentions : ℕ → Reply → Bool
mentions serial (reply.Controllers lines) = list_any (λ line. line.serial == serial) lines
mentions serial (reply.Interfaces lines) =
    list_any (λ line. option_map_or (λ owner. owner == serial) line.owner false) lines
mentions serial (reply.Cycle happened) =
    is_listed (map (λ ran. ran.serial) happened.ran) serial || is_listed happened.stops serial
mentions serial _ = false

-- no later reply names it
abbrev pub IsGone : List Moment → ℕ → Type 0
IsGone moments serial = AllByRecursion (λ moment. mentions serial moment.reply ≡ false) moments

-- the call was done
abbrev pub is_done : Reply → Bool
is_done reply.Done = true
is_done _ = false

-- An unload is done exactly for a loaded controller that is not active, and then no later reply names its serial.
pub record UnloadIsRight (moment : Moment) (name : List ℕ) (later : List Moment) : Type 0 where
  pub done : is_done moment.reply ≡ option_map_or (λ l. not (is_active l)) (controller_of moment.before name) false
  pub gone : is_done moment.reply ≡ true → IfSome (controller_of moment.before name) (λ l. IsGone later l.serial)

abbrev pub IfUnload : Moment → Call → List Moment → Type 0
IfUnload moment (call.Unload name) later = UnloadIsRight moment name later
IfUnload moment _ later = Unit {0}

-- Each unload is so.
abbrev pub UnloadsLeaveNothing : List Moment → Type 0
UnloadsLeaveNothing [] = Unit {0}
UnloadsLeaveNothing (moment ∷ moments) = IfUnload moment moment.call moments × UnloadsLeaveNothing moments

-- ---- All five

pub record AreSound (moments : List Moment) : Type 0 where
  pub loans : LoansAlwaysHold moments
  pub updates : EachDueOneRunsOnce moments
  pub configurations : OneConfigurationEach moments
  pub requests : RequestsAreDecidedOnce moments
  pub unloads : UnloadsLeaveNothing moments

-- A history from boot is sound where all five hold of its moments.
abbrev pub IsSound : Description → Blanks → ℕ → List Entry → Type 0
IsSound description blanks sessions history = AreSound (moments (boot description blanks sessions) history)
