use Rattle.turn_lock.proofs.PassLemmas.{loads_at, word_within}
use Rattle.turn_lock.proofs.lock.TurnLock.seen.Goals as goal

pub load-requires : goal.load-requires
load-requires g c = (
  c.requires.pass,
  word_within _ _ _ c.atomic_word_of.ensures c.args.self.now.sized.0,
  loads_at _ _ _ _ _ _ _ _ c.atomic_word_of.ensures,
)
