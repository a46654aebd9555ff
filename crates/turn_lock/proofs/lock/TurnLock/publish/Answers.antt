use Rattle.turn_lock.proofs.PassLemmas.{publishes_at, word_within}
use Rattle.turn_lock.proofs.lock.TurnLock.publish.Goals as goal

pub store-requires : goal.store-requires
store-requires g c = (
  c.requires.turn.0,
  word_within _ _ _ c.atomic_word_of.ensures c.args.self.now.sized.0,
  publishes_at _ _ _ _ _ _ _ _ _ c.atomic_word_of.ensures c.requires.turn.1 c.requires.number,
)
