use Rattle.std.proofs.lemmas.List.Elements.{All-from_recursion}
use Rattle.rt_flight.specs.Cells.{CanMakeStep}
use Rattle.par_update.proofs.steps.step_among.Goals as goal

pub step_beside-requires-clause-can : goal.step_beside-requires-clause-can
step_beside-requires-clause-can g c = λ κs lives. All-from_recursion CanMakeStep c.args.cells.now c.requires
