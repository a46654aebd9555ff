use Rattle.std.proofs.Common.{◌≡◌, ◌+◌, ◌≤◌, ◌++◌, drop, length, map, vec_len, vec_capacity}
use Rattle.cm_model.specs.declared.cause.Outcome.TheVariants as outcome
use Rattle.request_plan.proofs.requests.end_each.Given as goal

-- the outcomes so far, and those of the requests that are left, are all, and there is room for them
abbrev pub invariant-loop-request : goal.invariant-loop-request
invariant-loop-request l = record {
  ended : l.outcomes.items ++ map (λ x. outcome.LoopEnded) (drop l._request-index l.waiting)
      ≡ l.fn.outcomes.items ++ map (λ x. outcome.LoopEnded) l.waiting;
  room : vec_len l.outcomes + length (drop l._request-index l.waiting) ≤ vec_capacity l.outcomes;
  same : vec_capacity l.outcomes ≡ vec_capacity l.fn.outcomes;
}
