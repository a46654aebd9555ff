use Rattle.std.proofs.Common.{refl}
use Rattle.cm_document.specs.declared.call.Call.TheVariants as call
use Rattle.cm_desk.specs.Desk.{now_of}
use Rattle.cm_model.specs.Boundary.{close_reply}
use Rattle.shared_desk.proofs.LoopLemmas.{caller_there, closed_there, closes_where, stands_there}
use Rattle.shared_desk.proofs.TurnLemmas.{adds_one, turn_made}
use Rattle.shared_desk.proofs.shared.SharedDesk.close.Goals as goal

-- the loop stands at this turn as its pass has seen
pub close-requires : goal.close-requires
close-requires g c = record {
  can = closes_where c.args.self.now.lock c.args.self.now.at_first.value c.args.pass.now.pass c.take_turn-kept.result
      (stands_there c.args.self.now.lock c.args.self.now.at_first.value c.args.pass.now.pass c.take_turn-kept.new.pass
      c.take_turn-kept.result c.requires.looping c.take_turn-kept.ensures) c.requires;
}

-- the desk grew by an entry of this pass
pub put_grown-requires-clause-added : goal.put_grown-requires-clause-added
put_grown-requires-clause-added g c =
    adds_one c.take_turn-kept.new.pass c.take_turn-kept.result c.close.new.self c.close.new.self _ call.Close
    (close_reply (now_of c.take_turn-kept.result)) refl c.close.ensures.made c.take_turn-kept.ensures.seen
    (caller_there c.args.self.now.lock c.args.self.now.at_first.value c.args.pass.now.pass c.take_turn-kept.new.pass
    c.take_turn-kept.result c.requires.looping c.take_turn-kept.ensures) c.close.ensures.right

pub returns : goal.returns
returns g c = record {
  closed =
      closed_there c.args.self.now.lock c.args.self.now.at_first.value c.args.pass.now.pass c.put_grown.new.pass
      c.take_turn-kept.result c.close.new.self c.requires.looping
      (stands_there c.args.self.now.lock c.args.self.now.at_first.value c.args.pass.now.pass c.take_turn-kept.new.pass
      c.take_turn-kept.result c.requires.looping c.take_turn-kept.ensures)
      (turn_made c.args.self.now.lock c.args.self.now.at_first.value c.args.pass.now.pass c.take_turn-kept.new.pass
      c.put_grown.new.pass c.take_turn-kept.result c.close.new.self c.take_turn-kept.ensures
      c.close.ensures.made.opening c.close.ensures.right c.put_grown.ensures) c.close.ensures.made;
}
