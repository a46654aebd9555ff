use Rattle.std.proofs.Common.{◌≡◌, drop, length}
use Rattle.cm_model.specs.State.{State}
use Rattle.request_plan.proofs.PlanLemmas.{IsOnTheWay}
use Rattle.request_plan.specs.Situations.{IsSituation, IsSeenOf}
use Rattle.request_plan.proofs.plans.conclude_all.Given as goal

-- so many are concluded, and the situation is that after them
abbrev pub invariant-loop-request : goal.invariant-loop-request
invariant-loop-request l = record {
  stands : IsSituation l.checked l.situation;
  count : length l.conclusions.items ≡ l.request-index;
  way : (s : State) → IsSeenOf s l.checked l.fn.situation
      → IsOnTheWay s l.waiting l.conclusions.items (drop l.request-index l.waiting) l.checked l.situation;
}
