use Rattle.std.proofs.Common.{refl}
use Rattle.shared_desk.proofs.TurnLemmas.{adds_one, call_made, none_made}
use Rattle.shared_desk.proofs.shared.SharedDesk.call.Goals as goal

-- the desk grew by an entry of this pass
pub put_grown-requires-clause-added : goal.put_grown-requires-clause-added
put_grown-requires-clause-added g c =
    adds_one c.take_turn-kept.new.pass c.take_turn-kept.result c.call.new.self c.call.new.self _ c.args.call
    c.in-Ok.answer.0 refl c.in-Ok.ensures.made.0 c.take_turn-kept.ensures.seen c.number.ensures c.in-Ok.ensures.right

pub returns-in-Ok-clause-made : goal.returns-in-Ok-clause-made
returns-in-Ok-clause-made g c =
    call_made c.args.self.now.lock c.args.self.now.at_first.value c.args.pass.now c.take_turn-kept.new.pass
    c.put_grown.new.pass c.take_turn-kept.result c.call.new.self c.number.result c.args.call c.in-Ok.answer.0 _
    c.take_turn-kept.ensures c.number.ensures c.in-Ok.ensures.made.0 c.in-Ok.ensures.right c.in-Ok.ensures.made.1
    c.put_grown.ensures

-- no entry was made
pub returns-in-Err-clause-kept : goal.returns-in-Err-clause-kept
returns-in-Err-clause-kept g c =
    none_made c.args.self.now.lock c.args.self.now.at_first.value c.args.pass.now c.take_turn-kept.new.pass
    c.put.new.pass c.take_turn-kept.result c.take_turn-kept.ensures c.put.ensures.passed_on
