use Rattle.std.proofs.Common.{◌≡◌, refl, ap, ◌∙◌}
use Rattle.cm_model.specs.Order.{set_of}
use Rattle.rt_flight.specs.declared.context.CycleContext.{CycleContext}
use Rattle.rt_flight.specs.declared.robot.Robot.{Robot}
use Rattle.cm_resources.specs.declared.resources.CycleResources.{CycleResources}
use Rattle.cm_resources.proofs.CommitLemmas.{can_there}
use Rattle.cm_resources.proofs.ReadyLemmas.{at_rest}
use Rattle.cm_resources.proofs.resources.CycleResources.switch.Goals as goal

pub leave-idle_context-requires : goal.leave-idle_context-requires
leave-idle_context-requires g c = c.requires.home

pub commit-requires-clause-down : goal.commit-requires-clause-down
commit-requires-clause-down g c = c.requires.down

-- what works in a cycle is as it was at home
pub commit-requires-clause-can : goal.commit-requires-clause-can
commit-requires-clause-can g c =
    let p = c.requires.can in
    let robot : c.deref_mut.result.now.robot ≡ c.args.self.now.robot.value =
    ap (λ (k : CycleContext). k.robot) c.deref_mut.ensures.value ∙ c.leave-idle_context.ensures.left.robot in (
      p.0,
      set_of c.args.switched.now.set,
      p.1,
      can_there _ _ _ _ _ _ _ _ _ _ _ _ _ _ p.2 (ap (λ (h : Robot). h.places) robot)
          (ap (λ (b : CycleResources). b.room) c.leave-idle_context.ensures.resources)
          (ap (λ (h : Robot). h.hardware) robot),
    )

pub returns-clause-committed : goal.returns-clause-committed
returns-clause-committed g c = λ s again can.
    let robot : c.deref_mut.result.now.robot ≡ c.args.self.now.robot.value =
    ap (λ (k : CycleContext). k.robot) c.deref_mut.ensures.value ∙ c.leave-idle_context.ensures.left.robot in
    rw (ap (λ (h : Robot). h.hardware) c.rest.ensures.robot)
    (c.commit.ensures.committed s (set_of c.args.switched.now.set) again
    (can_there _ _ _ _ _ _ _ _ _ _ _ _ _ _ can (ap (λ (h : Robot). h.places) robot)
    (ap (λ (b : CycleResources). b.room) c.leave-idle_context.ensures.resources)
    (ap (λ (h : Robot). h.hardware) robot)))

-- all but the hardware stays
pub returns-clause-resources : goal.returns-clause-resources
returns-clause-resources g c =
    let resources = c.leave-idle_context.ensures.resources in
    at_rest _ (record c.leave-idle_context.new.self { room = c.commit.new.room }) _ c.leave-idle_context.result _ _
    c.leave-idle_context.ensures.left (ap (λ (x : CycleResources). record x { room = c.commit.new.room }) resources)
    (c.commit.ensures.rest.width ∙ ap (λ (b : CycleResources). b.room) resources) c.deref_mut.ensures.value refl
    c.rest.ensures.resources c.rest.ensures.robot

pub returns-clause-rest : goal.returns-clause-rest
returns-clause-rest g c =
    let rest = c.commit.ensures.rest in
    record {
      order = rest.order;
      run = rest.run;
      width =
          ap (λ (b : CycleResources). b.room) c.rest.ensures.resources ∙ rest.width
          ∙ ap (λ (b : CycleResources). b.room) c.leave-idle_context.ensures.resources;
      slots = rest.slots;
    }
