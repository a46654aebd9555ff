use Rattle.std.proofs.Common.{true, ◌∷◌, [], sym, append_assoc, arith}
use Rattle.loan_board.proofs.MakingLemmas.{all_next}
use Rattle.loan_board.proofs.make.push_references_for.Goals as goal

-- one more
pub loop-interface-preserved : goal.loop-interface-preserved
loop-interface-preserved c =
    rw (
      c.in_ok-push.ensures.items,
      append_assoc c.loop-interface.loans.items (c.idle.result ∷ []) _,
      c.idle.ensures,
      sym (all_next true c.args.interfaces.now c.loop-interface._interface-index
          (omega (arith, c.loop-interface-test.true))),
    ) c.loop-interface.invariant
