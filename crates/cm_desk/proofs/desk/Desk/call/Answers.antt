use Rattle.std.proofs.Common.{◌≡◌, ◌+◌, ◌≤◌, length, vec_capacity, refl, ap, subst, ◌∙◌, arith}
use Rattle.std.specs.Prelude.{option_map}
use Rattle.cm_document.specs.declared.call.Call.{Call}
use Rattle.cm_model.specs.Scheduled.{with_entry}
use Rattle.cm_desk.specs.Desk.{owed, IsAnswerTo}
use Rattle.cm_desk.proofs.RecordLemmas.{Recorded, recorded, few_after, room_after, effect-few, called_step}
use Rattle.cm_desk.proofs.desk.Desk.call.Given.{Over}
use Rattle.cm_desk.proofs.desk.Desk.call.Goals as goal

-- it answers the call that it was handed
answered : (g : Over) (c : goal.After-push_reserved g)
    → IsAnswerTo c.self.inside.works c.args.call c.answer.new.self c.in_ok-answer.answer.reply
    (option_map g.C.Controller.meaning c.in_ok-answer.answer.given)
answered g c =
    subst (λ (call : Call). IsAnswerTo c.self.inside.works call c.answer.new.self c.in_ok-answer.answer.reply
    (option_map g.C.Controller.meaning c.in_ok-answer.answer.given))
    (c.get.ensures ∙ c.in_ok-asked.ensures) c.in_ok-answer.ensures.made

-- the call is a step, and has one entry
entry : (g : Over) (c : goal.After-push_reserved g)
    → Recorded c.self.inside.at_boot c.self.inside.works c.answer.new.self c.self.inside.history.items
    c.push_reserved.new.self.items c.args.who c.args.call c.in_ok-answer.answer.reply
    (vec_capacity c.push_reserved.new.self) (vec_capacity c.make_ready.new.boxes)
entry g c =
    let a = c.self.inside in
    let answer = c.in_ok-answer.answer in
    let made = answered g c in
    let grown : c.push_reserved.new.self.items ≡ with_entry a.history.items c.args.who c.args.call answer.reply =
    rw (
      c.push_reserved.ensures.items,
      c.make_ready.ensures.history.0,
      c.of_boxed.ensures,
      c.in_ok-asked.ensures,
      c.in_ok-answer.ensures.twice,
    ) refl in
    let stepped =
    called_step a.works c.answer.new.self c.args.who c.args.call answer.reply
    (rw (← c.self.view_is) at c.requires.session) c.requires.called made.replied made.next in
    let room : length a.history.items + 1 + owed c.answer.new.self ≤ vec_capacity c.push_reserved.new.self =
    omega (arith, c.push_reserved.ensures.capacity, c.in-Ok.ensures.room.0 c.answer.new.self) in
    let few : length c.answer.new.self.loaded ≤ length a.works.loaded + 1 =
    rw made.next (effect-few a.works c.args.call answer.reply c.requires.called) in
    let places : length a.works.loaded + 1 ≤ vec_capacity c.make_ready.new.boxes =
    omega (arith, c.in-Ok.ensures.room.2, ap length c.slots.ensures, ap length c.self.invariant.1) in
    recorded _ _ _ _ _ _ _ _ _ _ _ _ c.self.invariant.0 stepped grown
    (few_after c.answer.new.self a.history.items _ c.args.who c.args.call answer.reply c.in-Ok.ensures.room.1 grown)
    (room_after c.answer.new.self a.history.items _ c.args.who c.args.call answer.reply _ room grown)
    (omega (arith, few, places))

-- it is handed on as it came
pub answer-requires : goal.answer-requires
answer-requires g c =
    rw (c.get.ensures, c.in_ok-asked.ensures)
    (record { called = c.requires.called; steady = c.self.invariant.0.steady })

pub invariant_of-self-2 : goal.invariant_of-self-2
invariant_of-self-2 g c = ((entry g c).keeps, c.make_ready.ensures.boxes.0 ∙ c.self.invariant.1)

pub returns-clause-made : goal.returns-clause-made
returns-clause-made g c = rw (← c.self.view_is) (entry g c).grows

-- the box that it hands out is that of its step
pub returns-clause-given : goal.returns-clause-given
returns-clause-given g c = rw (← c.self.view_is, c.self.invariant.0.ends) (answered g c).handed

pub returns-clause-kept : goal.returns-clause-kept
returns-clause-kept g c = rw (entry g c).keeps.ends (entry g c).keeps.few
