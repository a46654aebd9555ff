use Rattle.spawn_laws.proofs.WrittenLemmas.{planned_meets, planned_reads_back}
use Rattle.spawn_laws.proofs.written.a_planned_script_reads_back.Goals as goal

pub returns-clause-rules : goal.returns-clause-rules
returns-clause-rules c = planned_meets

pub returns-clause-text : goal.returns-clause-text
returns-clause-text c = planned_reads_back
