use Rattle.std.proofs.Common.{◌≡◌, ◌++◌, true, drop, map}
use Rattle.std.specs.Prelude.{flat_map}
use Rattle.cm_document.specs.Links.{exported_for}
use Rattle.loan_board.specs.Loans.{idle}
use Rattle.loan_board.proofs.make.push_references.Given as goal

-- the loans so far, and those of what is left, are all
abbrev pub invariant-loop-controller : goal.invariant-loop-controller
invariant-loop-controller l =
    l.loans.items
    ++ map (λ _. idle true) (flat_map (λ c. exported_for c.params c) (drop l.controller-index l.controllers))
    ≡ l.fn.loans.items ++ map (λ _. idle true) (flat_map (λ c. exported_for c.params c) l.controllers)
