use Rattle.shared_desk.specs.Passes.{IsSessionPass}
use Rattle.cm_bench.proofs.callers.call_by_pass.Given as goal

-- it is still the pass of a session
abbrev pub invariant-loop : goal.invariant-loop
invariant-loop g l = IsSessionPass l.desk.lock l.desk.at_first.value l.pass
