use Rattle.version_laws.proofs.ScheduleLemmas.{scheduled_alike, stepped_alike}
use Rattle.version_laws.proofs.versions.each_version_is_scheduled_alike.Goals as goal

pub returns-clause-run : goal.returns-clause-run
returns-clause-run c = scheduled_alike

pub returns-clause-steps : goal.returns-clause-steps
returns-clause-steps c = stepped_alike
