use Rattle.std.proofs.Common.{◌≡◌, [], refl, sym, ap, subst, ◌∙◌}
use Rattle.rt_flight.specs.declared.context.CycleContext.{CycleContext}
use Rattle.cm_resources.specs.CycleNeeds.{AreKept, IsRefitted}
use Rattle.cm_resources.proofs.ReadyLemmas.{made_ready}
use Rattle.cm_resources.proofs.resources.CycleResources.needs.Goals as goal

pub leave-idle_context-requires : goal.leave-idle_context-requires
leave-idle_context-requires c = c.requires.home

-- without its workspaces, and without those who stood there, it is at home again
pub returns-clause-resources : goal.returns-clause-resources
returns-clause-resources c =
    let k = c.leave-idle_context.result.value in
    let filled = ap (λ (x : CycleContext). record x { order = c.replace-members.new.dest }) c.deref_mut.ensures.value in
    let none : c.replace-workspaces.new.dest.items ≡ [] =
    ap (λ x. x.items) c.replace-workspaces.ensures.after ∙ c.new.ensures.items in
    let nobody : c.replace-members.new.dest.items ≡ [] =
    ap (λ x. x.items) c.replace-members.ensures.after ∙ c.new-2.ensures.items in
    made_ready c.args.self.now c.leave-idle_context.new.self _ c.leave-idle_context.result _ k
    (record c.leave-idle_context.new.self.buffers
    { workspaces = c.replace-workspaces.new.dest; shelf = c.needs_for-needs.new.shelf })
    c.leave-idle_context.ensures.left c.leave-idle_context.ensures.resources refl c.put_back.ensures.resources
    c.put_back.ensures.members
    (subst (IsRefitted k) (sym filled)
    (record { context = refl; erred = refl; told = c.leave-idle_context.ensures.left.told }))
    (subst (λ (x : CycleContext). AreKept k.robot.places c.replace-workspaces.new.dest.items x.order.items) (sym filled)
    (record { fitted = rw none tt; ordered = rw (none, nobody) refl }))
