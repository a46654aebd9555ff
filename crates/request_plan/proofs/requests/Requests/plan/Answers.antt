use Rattle.std.proofs.Common.{List, length, drop, ap, ap₂, sym, ◌∙◌, arith}
use Rattle.cm_model.specs.declared.cause.Outcome.{Outcome}
use Rattle.cm_model.specs.declared.request.Request.{Request}
use Rattle.request_plan.proofs.requests.Requests.plan.Goals as goal

pub returns : goal.returns
returns c = λ s asked names seen.
    c.in_ok-plan.ensures s seen names (ap length (sym asked.outcomes) ∙ sym c.decided.ensures)
    (sym (c.waiting.ensures.those
    ∙ ap₂ (λ (os : List Outcome) (rs : List Request). drop (length os) rs) asked.outcomes asked.requests))

pub plan_all-requires-clause-tickets : goal.plan_all-requires-clause-tickets
plan_all-requires-clause-tickets c = omega (arith, c.decided.ensures, c.waiting.ensures.tickets)
