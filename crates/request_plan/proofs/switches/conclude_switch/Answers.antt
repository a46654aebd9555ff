use Rattle.std.proofs.Common.{ap, sym, ◌∙◌, length}
use Rattle.cm_model.specs.BestEffort.{plan_of}
use Rattle.switch_plan.specs.Relations.{relations_of}
use Rattle.request_plan.proofs.ActLemmas.{scene_of_view, switch_concluded, switch_within}
use Rattle.request_plan.proofs.switches.conclude_switch.Goals as goal

pub plan_with-requires-clause-view : goal.plan_with-requires-clause-view
plan_with-requires-clause-view c = rw (c.view.ensures.loaded, c.view.ensures.checked) c.requires.situation.within

pub plan_with-requires-clause-relations : goal.plan_with-requires-clause-relations
plan_with-requires-clause-relations c = c.requires.relations ∙ ap relations_of (sym c.view.ensures.checked)

pub act_of-requires : goal.act_of-requires
act_of-requires c =
    record { relations = c.requires.relations; within = rw c.deref.ensures.value c.requires.situation.within }

pub returns : goal.returns
returns c =
    let d = c.args.checked.now in
    let situation = c.args.situation.now in
    let r = c.args.request.now in
    let planned_so = c.in_ok-plan.ensures
    ∙ ap (λ scene. plan_of scene r)
    (scene_of_view c.view.result d situation.loaded.items situation.lives.items c.view.ensures.checked
    c.view.ensures.loaded c.view.ensures.lives) in
    record {
      concluded = λ s seen. switch_concluded s d situation seen r c.in_ok-plan.plan planned_so c.in_ok-act.act
          (rw c.deref.ensures.value at c.in_ok-act.ensures);
      within = switch_within d c.deref.result.now c.in_ok-plan.plan (length situation.lives.items) c.in_ok-act.act
          c.in_ok-act.ensures;
    }
