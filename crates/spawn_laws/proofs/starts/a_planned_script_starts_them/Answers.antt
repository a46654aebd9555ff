use Rattle.spawn_laws.proofs.StartLemmas.{started_by}
use Rattle.spawn_laws.proofs.starts.a_planned_script_starts_them.Goals as goal

pub returns : goal.returns
returns c = started_by
