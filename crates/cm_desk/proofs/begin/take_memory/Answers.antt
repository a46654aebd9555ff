use Rattle.cm_resources.proofs.ReadyLemmas.{ready_already}
use Rattle.cm_desk.proofs.begin.take_memory.Goals as goal

pub needs-requires-clause-home : goal.needs-requires-clause-home
needs-requires-clause-home g c = c.requires.0

pub needs-requires-clause-can : goal.needs-requires-clause-can
needs-requires-clause-can g c = c.requires.1

-- where memory runs out before, nothing changed of what works in a cycle
pub returns-in_err-make_places-clause-resources : goal.returns-in_err-make_places-clause-resources
returns-in_err-make_places-clause-resources g c = ready_already c.args.resources.now c.requires.0 c.requires.1.kept

pub returns-in_err-run-clause-resources : goal.returns-in_err-run-clause-resources
returns-in_err-run-clause-resources g c = ready_already c.args.resources.now c.requires.0 c.requires.1.kept
