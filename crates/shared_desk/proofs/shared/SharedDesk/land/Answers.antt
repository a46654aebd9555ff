use Rattle.std.proofs.Common.{refl}
use Rattle.cm_document.specs.declared.call.Call.TheVariants as call
use Rattle.cm_desk.specs.Desk.{now_of}
use Rattle.cm_model.specs.Cycle.{cycle}
use Rattle.cm_model.specs.declared.reply.Reply.TheVariants as reply
use Rattle.shared_desk.proofs.LoopLemmas.{caller_there, landed_there, lands_where, stands_there}
use Rattle.shared_desk.proofs.TurnLemmas.{adds_one, turn_made}
use Rattle.shared_desk.proofs.shared.SharedDesk.land.Goals as goal

-- the loop stands at this turn as its pass has seen
pub land-requires : goal.land-requires
land-requires g c = record {
  flight = lands_where c.args.self.now.lock c.args.self.now.at_first.value c.args.pass.now.pass c.take_turn-kept.result
      c.args.flight
      (stands_there c.args.self.now.lock c.args.self.now.at_first.value c.args.pass.now.pass c.take_turn-kept.new.pass
      c.take_turn-kept.result c.requires.looping c.take_turn-kept.ensures) c.requires.lands;
}

-- the desk grew by an entry of this pass
pub put_grown-requires-clause-added : goal.put_grown-requires-clause-added
put_grown-requires-clause-added g c =
    adds_one c.take_turn-kept.new.pass c.take_turn-kept.result c.land.new.self c.land.new.self _
    (call.End (now_of c.take_turn-kept.result).ended) (reply.Cycle (cycle (now_of c.take_turn-kept.result)).happened)
    refl c.land.ensures.made c.take_turn-kept.ensures.seen
    (caller_there c.args.self.now.lock c.args.self.now.at_first.value c.args.pass.now.pass c.take_turn-kept.new.pass
    c.take_turn-kept.result c.requires.looping c.take_turn-kept.ensures) c.land.ensures.right

pub returns : goal.returns
returns g c = record {
  landed =
      landed_there c.args.self.now.lock c.args.self.now.at_first.value c.args.pass.now.pass c.put_grown.new.pass
      c.take_turn-kept.result c.land.new.self c.args.flight c.requires.looping
      (stands_there c.args.self.now.lock c.args.self.now.at_first.value c.args.pass.now.pass c.take_turn-kept.new.pass
      c.take_turn-kept.result c.requires.looping c.take_turn-kept.ensures) c.take_turn-kept.ensures.right
      (turn_made c.args.self.now.lock c.args.self.now.at_first.value c.args.pass.now.pass c.take_turn-kept.new.pass
      c.put_grown.new.pass c.take_turn-kept.result c.land.new.self c.take_turn-kept.ensures c.land.ensures.made.opening
      c.land.ensures.right c.put_grown.ensures) c.requires.lands c.land.ensures.made;
}
