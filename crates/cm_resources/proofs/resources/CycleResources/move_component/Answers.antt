use Rattle.std.proofs.Common.{◌≡◌, ℕ, None, refl, sym, ap, subst, ◌∙◌}
use Rattle.cm_hardware.specs.Holding.{IsHardwareOf, MovesComponent}
use Rattle.cm_hardware.specs.Wiring.{Wired}
use Rattle.rt_flight.specs.declared.context.CycleContext.{CycleContext}
use Rattle.rt_flight.specs.declared.robot.Robot.{Robot}
use Rattle.cm_resources.specs.declared.resources.CycleResources.{CycleResources}
use Rattle.cm_resources.proofs.ReadyLemmas.{at_rest}
use Rattle.cm_resources.proofs.resources.CycleResources.move_component.Goals as goal

-- what moves is what was at home
pub returns-clause-moved : goal.returns-clause-moved
returns-clause-moved c = λ s is.
    let same : c.deref_mut.result.now.robot.hardware ≡ c.args.self.now.robot.value.hardware =
    ap (λ (k : CycleContext). k.robot.hardware) c.deref_mut.ensures.value
    ∙ ap (λ (h : Robot). h.hardware) c.leave-idle_context.ensures.left.robot in
    rw (ap (λ (h : Robot). h.hardware) c.rest.ensures.robot)
    (subst (λ (w : Wired). MovesComponent s c.args.component c.args.target w c.move_component-answer.new.self
    c.move_component-answer.result) same
    (c.move_component-answer.ensures.moved s (subst (IsHardwareOf s) (sym same) is)))

-- all but the hardware stays
pub returns-clause-resources : goal.returns-clause-resources
returns-clause-resources c =
    let resources = c.leave-idle_context.ensures.resources in
    at_rest _ c.leave-idle_context.new.self _ c.leave-idle_context.result _ _ c.leave-idle_context.ensures.left
    (resources ∙ ap (λ (n : ℕ). record c.args.self.now { idle_context = None; room = n })
    (sym (ap (λ (x : CycleResources). x.room) resources))) (ap (λ (x : CycleResources). x.room) resources)
    c.deref_mut.ensures.value refl c.rest.ensures.resources c.rest.ensures.robot
