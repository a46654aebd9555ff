use Rattle.turn_lock.proofs.FinishLemmas.{ended}
use Rattle.turn_lock.proofs.lock.TurnLock.into_value.Goals as goal

pub unreachable-requires : goal.unreachable-requires
unreachable-requires g c =
    ended _ _ _ _ _ c.requires.idle c.requires.all _ _ c.close_with-closed.ensures.values.2 _ _
    c.take-home.ensures.value c.in-Away.is

pub unreachable-requires-in-Counted : goal.unreachable-requires-in-Counted
unreachable-requires-in-Counted g c =
    ended _ _ _ _ _ c.requires.idle c.requires.all _ _ c.close_with-closed.ensures.values.2 _ _
    c.take-home.ensures.value c.in-Counted.is

pub returns : goal.returns
returns g c =
    record {
      ends =
          ended _ _ _ _ _ c.requires.idle c.requires.all _ _ c.close_with-closed.ensures.values.2 _ _
          c.take-home.ensures.value c.in-Home.is;
    }
