use Rattle.std.proofs.Common.{◌≡◌, ◌+◌, ◌<◌, ◌≤◌, ◌^◌, ◌++◌, drop, length, map, vec_len, vec_capacity}
use Rattle.cm_model.specs.Boundary.{decisions_from}
use Rattle.cm_model.specs.declared.cause.Outcome.TheVariants as outcome
use Rattle.request_plan.proofs.requests.tell_ended.Given as goal

-- the decisions so far, and those of the requests that are left, are all; their tickets fit, and there is room for them
abbrev pub invariant-loop-request : goal.invariant-loop-request
invariant-loop-request l = record {
  told : l.decisions.items ++ decisions_from l.ticket (map (λ x. outcome.LoopEnded) (drop l._request-index l.waiting))
      ≡ l.fn.decisions.items ++ decisions_from l.first (map (λ x. outcome.LoopEnded) l.waiting);
  room : vec_len l.decisions + length (drop l._request-index l.waiting) ≤ vec_capacity l.decisions;
  fits : l.ticket + length (drop l._request-index l.waiting) < 2 ^ 32;
}
