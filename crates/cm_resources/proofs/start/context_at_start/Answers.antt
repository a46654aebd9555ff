use Rattle.std.proofs.Common.{sym, ap, subst, ◌∙◌}
use Rattle.cm_hardware.specs.Shown.{HasLinesFor}
use Rattle.rt_flight.specs.declared.context.CycleContext.{CycleContext}
use Rattle.rt_flight.specs.declared.robot.Robot.{Robot}
use Rattle.cm_resources.specs.CycleResources.{IsRobotAtStart}
use Rattle.cm_resources.proofs.start.context_at_start.Goals as goal

-- the context is that of the robot and of the lists
pub returns : goal.returns
returns c =
    let there = c.in_ok-context.ensures.ok in
    let robot = ap (λ (k : CycleContext). k.robot) there ∙ c.idle.ensures.robot in
    let lists = ap (λ (k : CycleContext). k.lists) there ∙ c.idle.ensures.lists in record {
      robot = subst (IsRobotAtStart c.args.checked.now) (sym robot) c.in_ok-robot.ensures;
      ending = ap (λ (k : CycleContext). k.ending) there ∙ c.idle.ensures.ending;
      lines = subst (λ (g : Robot). HasLinesFor g.hardware c.in_ok-context.context.value.lists) (sym robot)
          (subst (HasLinesFor c.in_ok-robot.robot.hardware) (sym lists) c.in_ok-lists.ensures);
      order = ap (λ (k : CycleContext). k.order.items) there ∙ c.idle.ensures.order;
      erred = ap (λ (k : CycleContext). k.erred.items) there ∙ c.idle.ensures.erred;
      told = ap (λ (k : CycleContext). k.room) there ∙ c.idle.ensures.told;
    }
