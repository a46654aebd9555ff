use Rattle.std.proofs.Common.{length}
use Rattle.trace_check.specs.Standing.{KnowsNames}
use Rattle.trace_check.proofs.ReplayLoopLemmas.{HasCome}
use Rattle.trace_check.proofs.replay.replay_lines.Given as goal

-- so many lines told the entries of the job, and their names are known
abbrev pub invariant-loop-rest : goal.invariant-loop-rest
invariant-loop-rest g l = record {
  come : HasCome (record { description = l.checked; script = l.script }) l.fn.job.desk.opening.blanks l.text l.rest
      l.told l.job;
  knows : KnowsNames (record { description = l.checked; script = l.script }) l.job.desk.made l.lines;
}

abbrev pub decreases-loop-rest : goal.decreases-loop-rest
decreases-loop-rest g l = length l.rest
