use Rattle.std.proofs.Common.{◌+◌, [], ◌∷◌, drop, length, ap, sym, subst, ◌∙◌, arith}
use Rattle.std.proofs.lemmas.List.{drop_more, drop_all, length-append}
use Rattle.request_plan.proofs.ActLemmas.{follows}
use Rattle.request_plan.proofs.PlanLemmas.{IsOnTheWay, begun, one_more, ended}
use Rattle.request_plan.proofs.plans.conclude_all.Goals as goal

pub loop-request-init : goal.loop-request-init
loop-request-init c = record {
  stands = c.requires.situation;
  count = ap length c.in_ok-conclusions.ensures.items;
  way = λ s seen. begun s c.args.waiting.now c.in_ok-conclusions.conclusions.items c.args.checked.now
      c.args.situation.now c.in_ok-conclusions.ensures.items seen;
}

pub loop-request-preserved : goal.loop-request-preserved
loop-request-preserved c =
    let i = c.loop-request.request-index in
    let d = c.args.checked.now in
    let waiting = c.args.waiting.now in
    record {
      stands = follows d c.loop-request.situation c.follow.new.self c.in_ok-conclusion.conclusion.act
          c.loop-request.invariant.stands c.follow.ensures.loaded c.follow.ensures.lives;
      count = ap length c.in_ok-push.ensures.items
          ∙ length-append c.loop-request.conclusions.items (c.in_ok-conclusion.conclusion ∷ [])
          ∙ ap (λ n. n + 1) c.loop-request.invariant.count;
      way = λ s seen.
          one_more s waiting c.loop-request.conclusions.items c.push.new.self.items c.request-item.result
          (drop (i + 1) waiting) d c.loop-request.situation c.follow.new.self c.in_ok-conclusion.conclusion
          (subst (λ rest. IsOnTheWay s waiting c.loop-request.conclusions.items rest d c.loop-request.situation)
          (drop_more waiting i c.request-item.result c.loop-request-test.true
          ∙ ap (λ r. r ∷ drop (i + 1) waiting) (sym c.request-item.is)) (c.loop-request.invariant.way s seen))
          c.in_ok-conclusion.ensures.concluded c.follow.ensures.loaded c.follow.ensures.lives
          c.in_ok-push.ensures.items;
    }

pub returns-clause-concluded : goal.returns-clause-concluded
returns-clause-concluded c = λ s seen.
    let i = c.loop-request.request-index in
    let waiting = c.args.waiting.now in
    let list = c.loop-request.conclusions.items in
    ended s waiting list c.args.checked.now c.loop-request.situation
    (subst (λ rest. IsOnTheWay s waiting list rest c.args.checked.now c.loop-request.situation)
    (drop_all i waiting (omega (arith, c.loop-request-test.false)))
    (c.loop-request.invariant.way s seen))
