-- The requests, as they are kept.
use Rattle.std.specs.Prelude.{◌≡◌, ℕ, ◌+◌, ◌<◌, ◌≤◌, ◌^◌, Bool, List, [], length, vec_capacity, Option, Some, None, Box}
use Rattle.std.specs.Prelude.{Vec}
use Rattle.std.specs.declared.alloc.Global.{Global}
use Rattle.cm_model.specs.State.{State}
use Rattle.cm_model.specs.declared.TheConstants.{MOST_WAITING}
use Rattle.cm_model.specs.declared.cause.Decision.{Decision}
use Rattle.cm_model.specs.declared.cause.Outcome.{Outcome}
use Rattle.cm_model.specs.declared.reply.Reply.{Reply}
use Rattle.cm_model.specs.declared.request.Request.{Request}

-- All requests by ticket, and the outcomes of the first of them, for the others wait.
pub record Asked : Type 0 where
  pub requests : List Request
  pub outcomes : List Outcome

-- the state with these requests, whose loop is closed or open
abbrev pub with_asked : State → Asked → Bool → State
with_asked s asked closed = record s { requests = asked.requests; outcomes = asked.outcomes; closed = closed }

-- these are the requests of the state
pub record AreAskedIn (s : State) (asked : Asked) : Type 0 where
  pub requests : asked.requests ≡ s.requests
  pub outcomes : asked.outcomes ≡ s.outcomes

-- a call got this reply, and left what it leaves with it
abbrev pub IsAnswered : Reply → (Reply → State) → State → Reply → Type 0
IsAnswered expected effect new reply = (reply ≡ expected) × (new ≡ effect reply)

-- No more are decided than were asked, no more wait than can, their number has 32 bits, and there is room for an
-- outcome of each.
pub record HaveRoom (requests : List Request) (outcomes : List Outcome) (places : ℕ) : Type 0 where
  pub decided : length outcomes ≤ length requests
  pub few_wait : length requests ≤ length outcomes + MOST_WAITING
  pub few : length requests < 2 ^ 32
  pub room : length requests ≤ places

-- There is room for what a close tells of those that wait; before a request was made none waits.
abbrev pub CanClose : List Request → List Outcome → Option (Box (Vec Decision Global) Global) → Type 0
CanClose requests outcomes None = length requests ≤ length outcomes
CanClose requests outcomes (Some closing) = (closing.value.items ≡ []) × (MOST_WAITING ≤ vec_capacity closing.value)
