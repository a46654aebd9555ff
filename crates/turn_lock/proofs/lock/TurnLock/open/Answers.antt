use Rattle.turn_lock.proofs.MakeLemmas.{alone}
use Rattle.turn_lock.proofs.SeatLemmas.{starts_from}
use Rattle.turn_lock.proofs.lock.TurnLock.open.Goals as goal

pub new-requires : goal.new-requires
new-requires g c =
    starts_from _ c.args.kept _ _ _ c.of.ensures (alone _ _ _ c.push_reserved.ensures.items c.in_ok-slots.ensures.items)
    c.requires.seats c.requires.empty
