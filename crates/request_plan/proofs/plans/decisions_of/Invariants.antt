use Rattle.std.proofs.Common.{◌≡◌, ◌+◌, ◌<◌, ◌^◌, ◌++◌, drop, length, map}
use Rattle.cm_model.specs.Boundary.{decisions_from}
use Rattle.request_plan.specs.Plans.{told_first}
use Rattle.request_plan.proofs.plans.decisions_of.Given as goal

-- the decisions so far, and those of the conclusions that are left, are all, and their tickets fit
abbrev pub invariant-loop-conclusion : goal.invariant-loop-conclusion
invariant-loop-conclusion l = record {
  decided : l.decisions.items ++ decisions_from l.next (map (λ c. c.outcome) (drop l.conclusion-index l.conclusions))
      ≡ told_first l.first ++ decisions_from l.ticket (map (λ c. c.outcome) l.conclusions);
  fits : l.next + length (drop l.conclusion-index l.conclusions) < 2 ^ 32;
}
