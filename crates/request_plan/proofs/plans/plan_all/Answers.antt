use Rattle.std.proofs.Common.{ℕ, ◌++◌, List, map, ap, sym, subst, ◌∙◌}
use Rattle.cm_model.specs.Boundary.{waiting, all_concluded, after_fallbacks, decisions_from}
use Rattle.cm_model.specs.declared.request.Request.{Request}
use Rattle.request_plan.proofs.ActLemmas.{order_seen}
use Rattle.request_plan.proofs.PlanLemmas.{plan_is}
use Rattle.request_plan.specs.Plans.{AreConcluded, HaveStoodInBy, told_first}
use Rattle.request_plan.specs.declared.acts.Conclusion.{Conclusion}
use Rattle.request_plan.proofs.plans.plan_all.Goals as goal

pub order-requires-clause-within : goal.order-requires-clause-within
order-requires-clause-within c = rw c.deref.ensures.value c.in_ok-conclusions.ensures.situation.within

pub returns : goal.returns
returns c = λ s seen names first waits.
    let d = c.args.checked.now in
    let stood = subst (λ (ns : List (List ℕ)). HaveStoodInBy s ns c.in_ok-first.first d c.stand_in.new.situation)
    (sym names) (c.in_ok-first.ensures.stood s seen) in
    let made = subst
    (λ (rs : List Request). AreConcluded (after_fallbacks s) rs c.in_ok-conclusions.conclusions.items d
    c.conclude_all.new.situation) (sym waits)
    (c.in_ok-conclusions.ensures.concluded (after_fallbacks s) stood.seen) in
    plan_is s _ d c.stand_in.new.situation c.conclude_all.new.situation stood made
    (c.in_ok-order.ensures.order
    ∙ order_seen (all_concluded (after_fallbacks s) (waiting s)) d c.conclude_all.new.situation made.seen
    c.deref.result.now c.deref.ensures.value)
    (c.in_ok-of.ensures ∙ c.in_ok-decisions.ensures
    ∙ ap (λ (cs : List Conclusion). told_first c.in_ok-first.first
    ++ decisions_from c.args.ticket (map (λ (x : Conclusion). x.outcome) cs)) c.deref-2.ensures.value
    ∙ ap (λ n. told_first c.in_ok-first.first
    ++ decisions_from n (map (λ (x : Conclusion). x.outcome) c.in_ok-conclusions.conclusions.items)) (sym first))
