use Rattle.std.proofs.Common.{◌<◌, arith}
use Rattle.cm_bench.specs.declared.limits.TheConstants.{CHANGE}
use Rattle.cm_bench.proofs.LimitLemmas.{one_slower}
use Rattle.cm_bench.proofs.limits.way.Goals as goal

pub loop-turn-preserved : goal.loop-turn-preserved
loop-turn-preserved c =
    let less = c.saturating_sub-left.ensures in
    let turn : c.loop-turn._turn < c.args.step = omega (arith, c.loop-turn-test.true, c.loop-turn.auto._turn-end) in
    let whole = one_slower CHANGE c.loop-turn.sum c.loop-turn.left c.args.step c.loop-turn._turn _ turn
    c.loop-turn.invariant.0 in (
      rw less whole,
      (
        omega (arith, less, c.loop-turn.invariant.1.0),
        omega (arith, less, c.requires, c.loop-turn.invariant.1.0, c.loop-turn.invariant.1.1),
      ),
    )
