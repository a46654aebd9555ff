use Rattle.std.proofs.Common.{◌≡◌, ◌++◌, map, take, drop}
use Rattle.cm_model.specs.Claims.{number_in}
use Rattle.loan_board.specs.Loans.{loan_at}
use Rattle.rt_flight.proofs.workspace.read_numbers.Given as goal

-- those so far are read
abbrev pub invariant-loop-i : goal.invariant-loop-i
invariant-loop-i l =
    l.states ≡ map (λ place. number_in (loan_at l.hardware.loans place).value) (take l.i l.places)
    ++ drop l.i l.initial.states
