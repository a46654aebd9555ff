use Rattle.std.proofs.Common.{[], ◌∷◌, length, refl, ap, ◌∙◌, arith, length-append}
use Rattle.turn_lock.specs.Views.{one_more}
use Rattle.turn_lock.proofs.MakeLemmas.{fresh_next, fresh_with}
use Rattle.turn_lock.proofs.lock.TurnLock.deal_others.Goals as goal

pub loop-number-preserved : goal.loop-number-preserved
loop-number-preserved g c =
    let i = c.loop-number.invariant in
    let d = c.deal.ensures in
    let items = c.in_ok-push.ensures.items in record {
      same = (d.first.0.0 ∙ i.same.0, d.first.0.1 ∙ i.same.1);
      fresh = fresh_with _ _ _ _ _ _ _ _ d.first.1 i.fresh.turns i.fresh.loads i.fresh;
      keeps_count = ap (λ v. v.given) d.first.1 ∙ ap one_more i.keeps_count;
      count = omega (arith, ap length items, length-append c.loop-number.passes.items (c.deal.result ∷ []));
      others = fresh_next _ _ _ _ _ items i.others (d.dealt.1 ∙ omega (arith, i.count)) d.dealt.0
          (fresh_with _ _ _ _ _ _ _ _ d.dealt.2 refl refl i.fresh);
    }
