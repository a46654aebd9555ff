use Rattle.std.proofs.lemmas.List.{get_or_default}
use Rattle.sequence.proofs.ListLemmas.{written_more}
use Rattle.loan_board.specs.Loans.{loan_at}
use Rattle.rt_flight.proofs.workspace.read_values.Goals as goal

pub loop-i-preserved : goal.loop-i-preserved
loop-i-preserved c =
    rw c.value.ensures
    (written_more (λ place. (loan_at c.args.hardware.now.loans place).value) c.args.places.now c.loop-i.values
    c.args.values.now c.loop-i.i _
    c.loop-i-test.true c.requires.room c.loop-i.invariant (get_or_default _ _ _ _ c.loop-i-test.true))
