use Rattle.std.proofs.lemmas.List.{get_or_default}
use Rattle.sequence.proofs.ListLemmas.{written_more}
use Rattle.cm_model.specs.Claims.{number_in}
use Rattle.loan_board.specs.Loans.{loan_at}
use Rattle.cm_slots.proofs.room.read_numbers.Goals as goal

pub loop-i-preserved : goal.loop-i-preserved
loop-i-preserved c =
    rw (c.number_in.ensures, c.value.ensures)
    (written_more (λ place. number_in (loan_at c.args.hardware.now.loans place).value) c.args.places.now c.loop-i.states
    c.args.states.now c.loop-i.i _
    c.loop-i-test.true c.requires.room c.loop-i.invariant (get_or_default _ _ _ _ c.loop-i-test.true))
