use Rattle.turn_lock.proofs.PassLemmas.{slot_held}
use Rattle.turn_lock.proofs.lock.TurnLock.fill.Goals as goal

pub exchange-requires : goal.exchange-requires
exchange-requires g c = (c.requires.table, slot_held c.args.seat.now.me c.requires.holds.1 c.requires.holds.0)
