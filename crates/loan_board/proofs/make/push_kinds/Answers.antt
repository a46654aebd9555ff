use Rattle.std.proofs.Common.{◌∷◌, [], sym, append_assoc, arith}
use Rattle.loan_board.proofs.MakingLemmas.{all_next}
use Rattle.loan_board.proofs.make.push_kinds.Goals as goal

-- one more
pub loop-kind-preserved : goal.loop-kind-preserved
loop-kind-preserved c =
    rw (
      c.in_ok-push.ensures.items,
      append_assoc c.loop-kind.loans.items (c.idle.result ∷ []) _,
      c.idle.ensures,
      sym (all_next c.args.is_command c.args.kinds.now c.loop-kind._kind-index (omega (arith, c.loop-kind-test.true))),
    ) c.loop-kind.invariant
