use Rattle.std.proofs.Common.{refl, ap, ◌∙◌}
use Rattle.rt_flight.specs.declared.context.CycleContext.{CycleContext}
use Rattle.cm_resources.proofs.resources.CycleResources.rest.Goals as goal

pub returns-clause-resources : goal.returns-clause-resources
returns-clause-resources c = refl

-- the robot is that of what came to rest
pub returns-clause-robot : goal.returns-clause-robot
returns-clause-robot c = c.of.ensures ∙ ap (λ (k : CycleContext). k.robot) c.deref.ensures
