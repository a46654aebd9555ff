use Rattle.std.proofs.Common.{rules}
use Rattle.turn_lock.proofs.PassLemmas.{idle}
use Rattle.turn_lock.proofs.StepLemmas.{draws}
use Rattle.turn_lock.proofs.lock.TurnLock.draw.Goals as goal

pub fetch_add-requires : goal.fetch_add-requires
fetch_add-requires g c =
    let i = c.requires.idle in
    (search rules, search rules, draws _ _ _ _ _ _ i.0 (idle c.args.seat.now.me i.2 i.1).number)
