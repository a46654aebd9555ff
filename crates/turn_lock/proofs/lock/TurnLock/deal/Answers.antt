use Rattle.std.proofs.Common.{rules}
use Rattle.turn_lock.proofs.SeatLemmas.{deals}
use Rattle.turn_lock.proofs.lock.TurnLock.deal.Goals as goal

pub split_seat-seat-requires : goal.split_seat-seat-requires
split_seat-seat-requires g c =
    let first = c.args.first.now in (
      search rules,
      search rules,
      deals _ _ _ _ first.seat.me _ c.requires.next.0 c.requires.next.1 first.alive c.requires.ready.1
          first.stands,
    )
