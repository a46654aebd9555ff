use Rattle.std.proofs.Common.{rules}
use Rattle.turn_lock.proofs.PassLemmas.{counts_after}
use Rattle.turn_lock.proofs.lock.TurnLock.count.Goals as goal

pub fetch_add-requires : goal.fetch_add-requires
fetch_add-requires g c = (
  search rules,
  search rules,
  counts_after _ _ _ _ c.args.pass.now _ _ _ c.fill.ensures.filled c.of.ensures c.requires.turn.1 c.requires.added,
)
