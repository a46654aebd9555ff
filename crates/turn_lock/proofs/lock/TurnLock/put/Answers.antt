use Rattle.std.proofs.Common.{rules}
use Rattle.turn_lock.proofs.PassLemmas.{passes_after}
use Rattle.turn_lock.proofs.lock.TurnLock.put.Goals as goal

pub fetch_add-served-requires : goal.fetch_add-served-requires
fetch_add-served-requires g c = (
  search rules,
  search rules,
  passes_after _ _ _ _ c.args.pass.now _ _ c.fill.ensures.filled c.requires.turn.1 c.requires.settled,
)
