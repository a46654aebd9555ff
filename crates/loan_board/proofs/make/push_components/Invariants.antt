use Rattle.std.proofs.Common.{◌≡◌, ◌++◌, drop, map}
use Rattle.std.specs.Prelude.{flat_map}
use Rattle.cm_document.specs.Places.{kinds_of}
use Rattle.loan_board.specs.Loans.{idle}
use Rattle.loan_board.proofs.make.push_components.Given as goal

-- the loans so far, and those of what is left, are all
abbrev pub invariant-loop-component : goal.invariant-loop-component
invariant-loop-component l =
    l.loans.items
    ++ map (λ _. idle l.is_command)
    (flat_map (λ c. flat_map (kinds_of l.is_command) c.joints) (drop l.component-index l.components))
    ≡ l.fn.loans.items
    ++ map (λ _. idle l.is_command) (flat_map (λ c. flat_map (kinds_of l.is_command) c.joints) l.components)
