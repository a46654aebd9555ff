use Rattle.std.proofs.Common.{refl}
use Rattle.shared_desk.proofs.TurnLemmas.{turn_found}
use Rattle.shared_desk.proofs.shared.SharedDesk.take_turn.Goals as goal

pub returns : goal.returns
returns g c =
    turn_found c.args.self.now.lock c.args.self.now.at_first.value c.args.pass.now c.take-kept.new.pass
    c.take-kept.result c.take-kept.result c.requires c.take-kept.ensures.taken refl refl c.take-kept.ensures.taken.own
    c.is_right.ensures
