use Rattle.std.proofs.Common.{refl, subst}
use Rattle.cm_document.specs.declared.call.Call.TheVariants as call
use Rattle.cm_desk.specs.Desk.{History, IsOut, now_of}
use Rattle.cm_model.specs.Boundary.{begin_reply}
use Rattle.shared_desk.proofs.LoopLemmas.{begins_where, begun_there, caller_there, stands_there}
use Rattle.shared_desk.proofs.TurnLemmas.{adds_one, none_made, turn_made}
use Rattle.shared_desk.proofs.shared.SharedDesk.begin.Goals as goal

-- the loop stands at this turn as its pass has seen
pub begin-requires : goal.begin-requires
begin-requires g c = record {
  can = begins_where c.args.self.now.lock c.args.self.now.at_first.value c.args.pass.now.pass c.take_turn-kept.result
      (stands_there c.args.self.now.lock c.args.self.now.at_first.value c.args.pass.now.pass c.take_turn-kept.new.pass
      c.take_turn-kept.result c.requires.looping c.take_turn-kept.ensures) c.requires;
}

-- the desk grew by an entry of this pass
pub put_grown-requires-clause-added : goal.put_grown-requires-clause-added
put_grown-requires-clause-added g c =
    adds_one c.take_turn-kept.new.pass c.take_turn-kept.result c.begin.new.self c.begin.new.self _
    (call.Begin (now_of c.take_turn-kept.result).ended) (begin_reply (now_of c.take_turn-kept.result)) refl
    c.in-Ok.ensures.made.0 c.take_turn-kept.ensures.seen
    (caller_there c.args.self.now.lock c.args.self.now.at_first.value c.args.pass.now.pass c.take_turn-kept.new.pass
    c.take_turn-kept.result c.requires.looping c.take_turn-kept.ensures) c.in-Ok.ensures.right

pub returns-in-Ok-clause-made : goal.returns-in-Ok-clause-made
returns-in-Ok-clause-made g c =
    begun_there c.args.self.now.lock c.args.self.now.at_first.value c.args.pass.now.pass c.put_grown.new.pass
    c.take_turn-kept.result c.begin.new.self c.requires.looping
    (stands_there c.args.self.now.lock c.args.self.now.at_first.value c.args.pass.now.pass c.take_turn-kept.new.pass
    c.take_turn-kept.result c.requires.looping c.take_turn-kept.ensures)
    (turn_made c.args.self.now.lock c.args.self.now.at_first.value c.args.pass.now.pass c.take_turn-kept.new.pass
    c.put_grown.new.pass c.take_turn-kept.result c.begin.new.self c.take_turn-kept.ensures
    c.in-Ok.ensures.made.0.opening c.in-Ok.ensures.right c.put_grown.ensures) c.in-Ok.ensures.made.0

-- its flight is that of the cycle which the pass has then seen begin
pub returns-in-Ok-clause-flight : goal.returns-in-Ok-clause-flight
returns-in-Ok-clause-flight g c =
    subst (λ (h : History). IsOut h c.in-Ok.flight)
    (turn_made c.args.self.now.lock c.args.self.now.at_first.value c.args.pass.now.pass c.take_turn-kept.new.pass
    c.put_grown.new.pass c.take_turn-kept.result c.begin.new.self c.take_turn-kept.ensures
    c.in-Ok.ensures.made.0.opening c.in-Ok.ensures.right c.put_grown.ensures).1 c.in-Ok.ensures.made.1

-- no entry was made
pub returns-in-Err-clause-kept : goal.returns-in-Err-clause-kept
returns-in-Err-clause-kept g c =
    none_made c.args.self.now.lock c.args.self.now.at_first.value c.args.pass.now.pass c.take_turn-kept.new.pass
    c.put.new.pass c.take_turn-kept.result c.take_turn-kept.ensures c.put.ensures.passed_on
