use Rattle.std.proofs.Common.{◌≡◌, ◌++◌, true, drop, map}
use Rattle.loan_board.specs.Loans.{idle}
use Rattle.loan_board.proofs.make.push_references_for.Given as goal

-- the loans so far, and those of what is left, are all
abbrev pub invariant-loop-interface : goal.invariant-loop-interface
invariant-loop-interface l =
    l.loans.items ++ map (λ _. idle true) (drop l._interface-index l.interfaces)
    ≡ l.fn.loans.items ++ map (λ _. idle true) l.interfaces
