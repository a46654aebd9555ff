-- Where a controller stands while it is updated, and what it reads there.
use Rattle.std.specs.Prelude.{◌≡◌, ℕ, ℤ, ◌*◌, ◌<◌, ◌≤◌, ◌==◌, Bool, not, ◌&&◌, if◌then◌else◌, List, [], length, All}
use Rattle.std.specs.Prelude.{Option}
use Rattle.std.specs.List.{list_any}
use Rattle.fixed_num.specs.declared.value.Value.{Value}
use Rattle.cm_document.specs.declared.call.Mail.{Mail}
use Rattle.cm_model.specs.Controllers.{Stepped, ctl_step}
use Rattle.cm_model.specs.Order.{is_due}
use Rattle.cm_storage.specs.Ran.{Ran}
use Rattle.cm_model.specs.declared.data.CtlData.{CtlData}
use Rattle.cm_storage.specs.declared.ran.Done.{Done}
use Rattle.cm_storage.specs.declared.ran.Done.TheVariants as done
use Rattle.cm_model.specs.declared.tick.TheConstants.{LONGEST_PERIOD}
use Rattle.cm_model.specs.declared.tick.Tick.{Tick}
use Rattle.loan_board.specs.declared.board.Loan.{Loan}
use Rattle.chain_order.specs.Links.{linked}
use Rattle.cm_places.specs.Placed.{Placed}
use Rattle.cm_slots.specs.Connections.{numbers_at, held_at}
use Rattle.cm_slots.specs.Updates.{Aloft}

-- A controller by the number of its load and its place in the description; in how many cycles it is updated once; and
-- what was last read for it, of states and of references, and what it last gave out.
pub record WorkspaceFacts : Type 0 where
  pub serial : ℕ
  pub place : ℕ
  pub divisor : ℕ
  pub states : List ℤ
  pub references : List Value
  pub outs : List Value

-- ---- What it reads

-- once its states and its references are read, while the board holds this
abbrev pub gathered : Placed → List Loan → WorkspaceFacts → WorkspaceFacts
gathered placed loans s = record s {
  states = numbers_at loans (linked placed.reads s.place);
  references = held_at loans (linked placed.references s.place);
}

-- It has just the room for what its controller reads, for its references and for its claims.
pub record IsFitted (placed : Placed) (s : WorkspaceFacts) : Type 0 where
  pub states : length s.states ≡ length (linked placed.reads s.place)
  pub references : length s.references ≡ length (linked placed.references s.place)
  pub outs : length s.outs ≡ length (linked placed.claims s.place)

-- whether it has
abbrev pub is_fitted : Placed → WorkspaceFacts → Bool
is_fitted placed s =
    (length s.states == length (linked placed.reads s.place)
    && length s.references == length (linked placed.references s.place))
    && length s.outs == length (linked placed.claims s.place)

-- the rows of the described controller at this place are there
pub record HasRows (placed : Placed) (place : ℕ) : Type 0 where
  pub reads : place < length placed.reads
  pub references : place < length placed.references
  pub claims : place < length placed.claims

-- It is fitted, its rows are there, and what stands in them is on a board of so many interfaces.
pub record IsConnectedTo (placed : Placed) (board : ℕ) (s : WorkspaceFacts) : Type 0 where
  pub fitted : IsFitted placed s
  pub rows : HasRows placed s.place
  pub read_there : All (λ place. place < board) (linked placed.reads s.place)
  pub referred_there : All (λ place. place < board) (linked placed.references s.place)
  pub claimed_there : All (λ place. place < board) (linked placed.claims s.place)

-- ---- When it is updated

-- it is updated once in some cycles, and these are no longer than a controller may wait
pub record IsInTime (period_us : ℕ) (s : WorkspaceFacts) : Type 0 where
  pub divided : 1 ≤ s.divisor
  pub no_longer : s.divisor * period_us ≤ LONGEST_PERIOD

-- the time of its update
abbrev pub tick_at : Aloft → WorkspaceFacts → Tick
tick_at a s = record { cycle = a.number; time_us = a.number * a.period_us; dt_us = s.divisor * a.period_us }

-- the step of a controller with these data, from what was read here, once it took this mail
abbrev pub step_from : CtlData → Tick → WorkspaceFacts → Option Mail → Stepped
step_from ctl tick s mail = ctl_step ctl tick s.states s.references mail

-- the controller at this place is held off: a read of one of its components failed
abbrev pub is_held_at : Aloft → ℕ → Bool
is_held_at a place =
    list_any (λ component. list_any (λ part. part.place == component) a.failed) (linked a.related.components place)

-- it is updated in the cycle: it is due, and not held off
abbrev pub flies : Aloft → WorkspaceFacts → Bool
flies a s = is_due a.number s.divisor && not (is_held_at a s.place)

-- ---- What is told of it

-- what is told of an update that went so, where it publishes what was read, or not
abbrev pub told_of : WorkspaceFacts → Bool → Done → Ran
told_of s publishes answer = record {
  serial = s.serial;
  done = answer;
  outs = elim answer [ done.Ok ↦ s.outs | done.Error ↦ [] ];
  published = if publishes then s.states else [];
}
