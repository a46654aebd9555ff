-- One update in a cycle, by place: when it is made, its step, and what that makes of the board.
use Rattle.std.specs.Prelude.{ℕ, ◌*◌, ◌<◌, ◌≤◌, ◌^◌, Bool, ◌==◌, List, [], ◌∷◌, ◌++◌, Option, IfSome, unwrap_or}
use Rattle.std.specs.List.{list_any}
use Rattle.fixed_num.specs.declared.value.Value.{Value}
use Rattle.cm_document.specs.declared.call.Mail.{Mail}
use Rattle.cm_model.specs.Controllers.{Stepped, ctl_step}
use Rattle.cm_model.specs.State.{Loaded}
use Rattle.cm_storage.specs.declared.ran.Done.TheVariants as done
use Rattle.cm_storage.specs.declared.record.FailedPart.{FailedPart}
use Rattle.cm_model.specs.declared.tick.TheConstants.{LONGEST_PERIOD}
use Rattle.cm_model.specs.declared.tick.Tick.{Tick}
use Rattle.loan_board.specs.Loans.{set, with_loan}
use Rattle.loan_board.specs.declared.board.Loan.{Loan}
use Rattle.chain_order.specs.Links.{linked}
use Rattle.cm_places.specs.Placed.{Placed}
use Rattle.switch_plan.specs.Relations.{Related}
use Rattle.cm_slots.specs.Connections.{held_at, numbers_at}

-- ---- The cycle

-- What is the same for all updates of a cycle: its number, the time from one cycle to the next in microseconds, where
-- controllers stand to the board and to components, and the reads that failed.
pub record Aloft : Type 0 where
  pub number : ℕ
  pub period_us : ℕ
  pub placed : Placed
  pub related : Related
  pub failed : List FailedPart

-- it is updated once in some cycles, of which there is one at least
abbrev pub HasTime : Loaded → Type 0
HasTime l = IfSome l.divisor (λ divisor. 1 ≤ divisor)

-- and these are not longer than a controller may wait
abbrev pub IsInTime : ℕ → Loaded → Type 0
IsInTime period_us l = IfSome l.divisor (λ divisor. divisor * period_us ≤ LONGEST_PERIOD)

-- when it is updated
abbrev pub tick_in : Aloft → Loaded → Tick
tick_in a l = record { cycle = a.number; time_us = a.number * a.period_us; dt_us = unwrap_or l.divisor 1 * a.period_us }

-- It is held off: a read of one of its components failed.
abbrev pub is_held_in : Aloft → Loaded → Bool
is_held_in a l =
    list_any (λ component. list_any (λ part. part.place == component) a.failed) (linked a.related.components l.place)

-- ---- One update

-- its step, while the board holds this, and this mail is aloft for it
abbrev pub step_in : Aloft → List Loan → Option Mail → Loaded → Stepped
step_in a loans mail l =
    ctl_step l.ctl (tick_in a l) (numbers_at loans (linked a.placed.reads l.place))
    (held_at loans (linked a.placed.references l.place)) mail

-- these places of the board hold these values, one after the other
abbrev pub put_on : List Loan → List ℕ → List Value → List Loan
put_on loans (place ∷ places) (out ∷ outs) = put_on (with_loan loans place (set out)) places outs
put_on loans _ _ = loans

-- the board after its step: its claims hold the outputs, unless it failed
abbrev pub board_after : List ℕ → Stepped → List Loan → List Loan
board_after claims step loans = elim step.done [ done.Ok ↦ put_on loans claims step.outs | done.Error ↦ loans ]

-- the serials so far, and this one where its step failed
abbrev pub with_erred : ℕ → Stepped → List ℕ → List ℕ
with_erred serial step erred = elim step.done [ done.Ok ↦ erred | done.Error ↦ erred ++ serial ∷ [] ]

-- ---- When that may be done

-- the time of the cycle can be told, and some time passes from one to the next
pub record IsTimely (a : Aloft) : Type 0 where
  pub some_time : 1 ≤ a.period_us
  pub no_longer : a.period_us ≤ LONGEST_PERIOD
  pub time : a.number * a.period_us < 2 ^ 64
