use Rattle.cm_document.specs.Places.{interfaces_of}
use Rattle.loan_board.proofs.BoardLemmas.{idle-IsBoard}
use Rattle.loan_board.proofs.MakingLemmas.{all_idle, interfaces_few}
use Rattle.loan_board.proofs.board.Board.make.Goals as goal

-- states, commands and references are all interfaces
pub returns : goal.returns
returns c =
    rw (
      c.in_ok-push_references.ensures,
      c.in_ok-push_components-2.ensures,
      c.in_ok-push_components.ensures,
      c.new-loans.ensures.items,
      c.as_slice.ensures,
      c.as_slice-components.ensures,
      c.description-description.ensures.same,
    )
    (all_idle c.args.checked.now)

-- each is idle, and they are few
pub invariant_of-result : goal.invariant_of-result
invariant_of-result c =
    rw (
      c.in_ok-push_references.ensures,
      c.in_ok-push_components-2.ensures,
      c.in_ok-push_components.ensures,
      c.new-loans.ensures.items,
      c.as_slice.ensures,
      c.as_slice-components.ensures,
      c.description-description.ensures.same,
      all_idle c.args.checked.now,
    )
    (idle-IsBoard (interfaces_of c.args.checked.now)
    (interfaces_few c.args.checked.now c.description-description.ensures.valid))
