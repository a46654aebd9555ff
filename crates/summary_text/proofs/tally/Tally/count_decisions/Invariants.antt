use Rattle.std.proofs.Common.{◌≡◌, ◌+◌, ◌≤◌, drop}
use Rattle.summary_text.specs.Counted.{with_decisions}
use Rattle.summary_text.specs.Few.{outcomes}
use Rattle.summary_text.proofs.tally.Tally.count_decisions.Given as goal

-- what is counted so far, and the decisions that are left, are all that is counted
abbrev pub invariant-loop-decision : goal.invariant-loop-decision
invariant-loop-decision l = record {
  so_far : with_decisions (drop l.decision-index l.decisions) l.self ≡ with_decisions l.decisions l.fn.self;
  room : outcomes l.self ≤ outcomes l.fn.self + l.decision-index;
}
