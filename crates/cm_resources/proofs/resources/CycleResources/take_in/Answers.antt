use Rattle.std.proofs.Common.{Some, refl, sym, ap, subst, ◌∙◌}
use Rattle.rt_flight.specs.declared.context.CycleContext.{CycleContext}
use Rattle.rt_flight.specs.declared.robot.Robot.{Robot}
use Rattle.cm_resources.specs.CycleNeeds.{AreKept, IsRefitted}
use Rattle.cm_resources.proofs.ReadyLemmas.{kept_new, made_ready, refit_new}
use Rattle.cm_resources.proofs.resources.CycleResources.take_in.Goals as goal

pub leave-idle_context-requires : goal.leave-idle_context-requires
leave-idle_context-requires c = c.requires.home

-- what was at home has the new needs, and is at home again
pub returns-clause-resources : goal.returns-clause-resources
returns-clause-resources c = λ d order loaded all.
    let new = c.args.needs in
    let k = c.leave-idle_context.result.value in
    let filled = ap (λ (x : CycleContext). record x { room = Some new.room }) c.deref_mut-3.ensures.value
    ∙ ap (λ (x : CycleContext). record x { erred = new.erred; room = Some new.room }) c.deref_mut-2.ensures.value
    ∙ ap (λ (x : CycleContext). record x { order = new.order; erred = new.erred; room = Some new.room })
    c.deref_mut.ensures.value in
    let kept = subst (λ (g : Robot). AreKept g.places new.workspaces.items new.order.items)
    (sym c.leave-idle_context.ensures.left.robot)
    (kept_new d c.args.self.now.robot.value.places order loaded new all) in
    made_ready c.args.self.now c.leave-idle_context.new.self _ c.leave-idle_context.result _ k
    (record c.leave-idle_context.new.self.buffers { workspaces = new.workspaces; mails = new.mails })
    c.leave-idle_context.ensures.left c.leave-idle_context.ensures.resources refl c.put_back.ensures.resources
    c.put_back.ensures.members
    (subst (IsRefitted k) (sym filled)
    (refit_new d c.args.self.now.robot.value.places order loaded new k all
    (c.leave-idle_context.ensures.left.erred ∙ c.requires.none_erred)))
    (subst (λ (x : CycleContext). AreKept k.robot.places new.workspaces.items x.order.items) (sym filled) kept)
