use Rattle.std.proofs.Common.{rules, ◌∙◌}
use Rattle.turn_lock.proofs.PassLemmas.{hit_of, slot_of_hit}
use Rattle.turn_lock.proofs.StepLemmas.{looks}
use Rattle.turn_lock.proofs.lock.TurnLock.look.Goals as goal

pub load-requires : goal.load-requires
load-requires g c = (search rules, search rules, looks _ _ _ _ _ _ _ c.requires.waits)

pub exchange-requires : goal.exchange-requires
exchange-requires g c = (
  c.load.ensures.0
      ∙ c.requires.table,
  slot_of_hit _ _ _ (hit_of _ _ _ _ _ c.requires.waits c.load.ensures.2 c.if-load-mine.false),
)
