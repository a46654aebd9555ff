use Rattle.turn_lock.proofs.FinishLemmas.{has_all, finishes}
use Rattle.turn_lock.proofs.lock.TurnLock.finish.Goals as goal

pub into_value-requires-clause-all : goal.into_value-requires-clause-all
into_value-requires-clause-all g c =
    has_all _ c.args.first c.args.others.items _ c.join_all-seat.ensures.gathered c.requires.passes.all

pub returns : goal.returns
returns g c = record { finished = finishes _ _ _ _ _ c.join_all-seat.ensures.gathered c.into_value.ensures.ends }
