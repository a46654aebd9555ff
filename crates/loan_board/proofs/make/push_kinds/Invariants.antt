use Rattle.std.proofs.Common.{◌≡◌, ◌++◌, drop, map}
use Rattle.loan_board.specs.Loans.{idle}
use Rattle.loan_board.proofs.make.push_kinds.Given as goal

-- the loans so far, and those of what is left, are all
abbrev pub invariant-loop-kind : goal.invariant-loop-kind
invariant-loop-kind l =
    l.loans.items ++ map (λ _. idle l.is_command) (drop l._kind-index l.kinds)
    ≡ l.fn.loans.items ++ map (λ _. idle l.is_command) l.kinds
