use Rattle.std.proofs.Common.{refl}
use Rattle.cm_document.specs.declared.call.Call.TheVariants as call
use Rattle.cm_model.specs.declared.reply.Reply.TheVariants as reply
use Rattle.shared_desk.proofs.TurnLemmas.{adds_one, call_made, looked, none_made, waits_on, went_on}
use Rattle.shared_desk.proofs.shared.SharedDesk.reached.Goals as goal

-- the desk grew by an entry of this pass
pub put_grown-requires-clause-added : goal.put_grown-requires-clause-added
put_grown-requires-clause-added g c =
    adds_one c.take_turn-kept.new.pass c.take_turn-kept.result c.reached.new.self c.reached.new.self _
    (call.Await c.args.cycles) reply.Done refl
    (went_on c.in-Ok-true.field-0 c.take_turn-kept.result c.reached.new.self c.number.result (call.Await c.args.cycles)
    reply.Done c.in-Ok-true.field-0-test c.in-Ok-true.ensures.made) c.take_turn-kept.ensures.seen c.number.ensures
    c.in-Ok-true.ensures.right

pub returns-in-Ok-true-clause-made : goal.returns-in-Ok-true-clause-made
returns-in-Ok-true-clause-made g c =
    call_made c.args.self.now.lock c.args.self.now.at_first.value c.args.pass.now c.take_turn-kept.new.pass
    c.put_grown.new.pass c.take_turn-kept.result c.reached.new.self c.number.result (call.Await c.args.cycles)
    reply.Done _ c.take_turn-kept.ensures c.number.ensures
    (went_on c.in-Ok-true.field-0 c.take_turn-kept.result c.reached.new.self c.number.result (call.Await c.args.cycles)
    reply.Done c.in-Ok-true.field-0-test c.in-Ok-true.ensures.made) c.in-Ok-true.ensures.right refl c.put_grown.ensures

-- the call could not be made yet
pub returns-in-Ok-false-clause-made : goal.returns-in-Ok-false-clause-made
returns-in-Ok-false-clause-made g c =
    looked c.args.self.now.lock c.args.self.now.at_first.value c.args.pass.now c.take_turn-kept.new.pass c.put.new.pass
    c.take_turn-kept.result c.number.result (call.Await c.args.cycles) c.take_turn-kept.ensures c.number.ensures
    (waits_on c.in-Ok-false.field-0 c.take_turn-kept.result c.reached.new.self c.number.result
    (call.Await c.args.cycles) reply.Done c.in-Ok-false.field-0-test c.in-Ok-false.ensures.made).0
    c.put.ensures.passed_on

-- no entry was made
pub returns-in-Err-clause-kept : goal.returns-in-Err-clause-kept
returns-in-Err-clause-kept g c =
    none_made c.args.self.now.lock c.args.self.now.at_first.value c.args.pass.now c.take_turn-kept.new.pass
    c.put-in-Err.new.pass c.take_turn-kept.result c.take_turn-kept.ensures c.put-in-Err.ensures.passed_on
