use Rattle.std.proofs.Common.{refl}
use Rattle.cm_document.specs.declared.call.Call.TheVariants as call
use Rattle.cm_model.specs.declared.reply.Reply.TheVariants as reply
use Rattle.shared_desk.proofs.TurnLemmas.{adds_one, call_made, looked, none_made, not_told, was_told}
use Rattle.shared_desk.proofs.shared.SharedDesk.told.Goals as goal

-- the desk grew by an entry of this pass
pub put_grown-requires-clause-added : goal.put_grown-requires-clause-added
put_grown-requires-clause-added g c =
    adds_one c.take_turn-kept.new.pass c.take_turn-kept.result c.told.new.self c.told.new.self _
    (call.Told c.args.ticket) (reply.Outcome c.in-Ok-Some.outcome) refl
    (was_told c.in-Ok-Some.field-0 c.in-Ok-Some.outcome c.take_turn-kept.result c.told.new.self c.number.result
    (call.Told c.args.ticket) c.in-Ok-Some.field-0-is c.in-Ok-Some.ensures.made) c.take_turn-kept.ensures.seen
    c.number.ensures c.in-Ok-Some.ensures.right

pub returns-in-Ok-Some-clause-made : goal.returns-in-Ok-Some-clause-made
returns-in-Ok-Some-clause-made g c =
    call_made c.args.self.now.lock c.args.self.now.at_first.value c.args.pass.now c.take_turn-kept.new.pass
    c.put_grown.new.pass c.take_turn-kept.result c.told.new.self c.number.result (call.Told c.args.ticket)
    (reply.Outcome c.in-Ok-Some.outcome) _ c.take_turn-kept.ensures c.number.ensures
    (was_told c.in-Ok-Some.field-0 c.in-Ok-Some.outcome c.take_turn-kept.result c.told.new.self c.number.result
    (call.Told c.args.ticket) c.in-Ok-Some.field-0-is c.in-Ok-Some.ensures.made) c.in-Ok-Some.ensures.right refl
    c.put_grown.ensures

-- the call could not be made yet
pub returns-in-Ok-None-clause-made : goal.returns-in-Ok-None-clause-made
returns-in-Ok-None-clause-made g c =
    looked c.args.self.now.lock c.args.self.now.at_first.value c.args.pass.now c.take_turn-kept.new.pass c.put.new.pass
    c.take_turn-kept.result c.number.result (call.Told c.args.ticket) c.take_turn-kept.ensures c.number.ensures
    (not_told c.in-Ok-None.field-0 c.take_turn-kept.result c.told.new.self c.number.result (call.Told c.args.ticket)
    c.in-Ok-None.field-0-is c.in-Ok-None.ensures.made).0 c.put.ensures.passed_on

-- no entry was made
pub returns-in-Err-clause-kept : goal.returns-in-Err-clause-kept
returns-in-Err-clause-kept g c =
    none_made c.args.self.now.lock c.args.self.now.at_first.value c.args.pass.now c.take_turn-kept.new.pass
    c.put-in-Err.new.pass c.take_turn-kept.result c.take_turn-kept.ensures c.put-in-Err.ensures.passed_on
