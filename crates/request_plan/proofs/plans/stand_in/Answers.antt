use Rattle.std.proofs.Common.{ℕ, false, List, length, sym, subst, ap, ap₂, ◌∙◌}
use Rattle.std.specs.Prelude.{◌==◌}
use Rattle.cm_document.specs.declared.call.Pick.{Pick}
use Rattle.cm_document.specs.declared.call.SwitchRequest.{SwitchRequest}
use Rattle.cm_model.specs.declared.request.Request.TheVariants as request
use Rattle.request_plan.proofs.ActLemmas.{follows}
use Rattle.request_plan.proofs.PlanLemmas.{nobody_stands, somebody_stands}
use Rattle.request_plan.specs.Acts.{IsConclusionOf}
use Rattle.request_plan.proofs.plans.stand_in.Goals as goal

-- a best effort on these lists
abbrev as_far_as : List Pick → List Pick → SwitchRequest
as_far_as on off = record { on = on; off = off; strict = false }

pub returns-then-is_empty-clause-stood : goal.returns-then-is_empty-clause-stood
returns-then-is_empty-clause-stood c = λ s seen.
    nobody_stands s c.args.names c.args.checked.now c.args.situation.now
    (ap (λ (names : List (List ℕ)). length names == 0) (sym c.as_slice.ensures) ∙ sym c.is_empty.ensures
    ∙ c.if-is_empty.true) seen

pub returns-clause-situation : goal.returns-clause-situation
returns-clause-situation c =
    follows c.args.checked.now c.args.situation.now c.follow.new.self c.in_ok-conclusion.conclusion.act
    c.requires.situation c.follow.ensures.loaded c.follow.ensures.lives

pub returns-clause-stood : goal.returns-clause-stood
returns-clause-stood c = λ s seen.
    somebody_stands s c.args.names c.args.checked.now c.args.situation.now c.follow.new.self
    c.in_ok-conclusion.conclusion
    (ap (λ (names : List (List ℕ)). length names == 0) (sym c.as_slice.ensures) ∙ sym c.is_empty.ensures
    ∙ c.if-is_empty.false)
    (λ t seen_then. subst (λ (r : SwitchRequest). IsConclusionOf t (request.Switch r) c.in_ok-conclusion.conclusion)
    (ap₂ as_far_as c.in_ok-picks.ensures c.new.ensures) (c.in_ok-conclusion.ensures.concluded t seen_then))
    c.follow.ensures.loaded c.follow.ensures.lives seen
