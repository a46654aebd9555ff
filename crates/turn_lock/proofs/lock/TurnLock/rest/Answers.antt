use Rattle.turn_lock.proofs.PassLemmas.{word_within}
use Rattle.turn_lock.proofs.lock.TurnLock.rest.Goals as goal

-- the word of a published number is one of the lock's
pub park_timeout-requires : goal.park_timeout-requires
park_timeout-requires g c = word_within _ _ _ c.atomic_word_of-word.ensures c.args.self.now.sized.0
