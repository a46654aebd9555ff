use Rattle.switch_plan.proofs.interfaces.component_with.Goals as goal

pub returns-in-Joint : goal.returns-in-Joint
returns-in-Joint c = rw c.in-Joint.is c.component_of.ensures
