use Rattle.std.proofs.Common.{◌≡◌, ◌++◌, map, take, drop}
use Rattle.loan_board.specs.Loans.{loan_at}
use Rattle.rt_flight.proofs.workspace.read_values.Given as goal

-- those so far are read
abbrev pub invariant-loop-i : goal.invariant-loop-i
invariant-loop-i l =
    l.values ≡ map (λ place. (loan_at l.hardware.loans place).value) (take l.i l.places) ++ drop l.i l.initial.values
