use Rattle.std.proofs.Common.{ℕ, List, ◌++◌, length, ◌∙◌, ap, subst}
use Rattle.cm_model.specs.Order.{places_of}
use Rattle.chain_order.specs.Links.{linked}
use Rattle.stop_plan.specs.Ending.{HasFlags}
use Rattle.stop_plan.specs.Settled.{IsSettled}
use Rattle.stop_plan.specs.Spread.{spread}
use Rattle.stop_plan.proofs.EndingLemmas.{fallen_so, stops_so, ending_so}
use Rattle.stop_plan.proofs.ReportLemmas.{places_in_order}
use Rattle.stop_plan.proofs.ending.Ending.decide.Goals as goal

pub returns : goal.returns
returns c =
    let r = c.args.report.now in
    let within = c.requires.report.within in
    record {
      flags = subst (λ (leaders : List (List ℕ)). HasFlags (length leaders) c.settle.new.self) c.leaders.ensures
          c.settle.ensures.flags;
      stops = λ s valid of.
          c.tell.ensures
          ∙ ap (λ told. c.args.serials.now.items ++ told)
          (stops_so s valid r of within c.spread.new.set
          (λ p. ap (λ f. f p) c.spread.ensures.set
          ∙ ap (λ hit. spread (linked r.relations.now.followers) r.order.now hit p) c.gather_struck.ensures.set
          ∙ fallen_so s valid r of within p));
      sets = λ s valid steady of.
          ending_so s valid r of within steady.in_order c.gather.new.set c.spread.new.set
          (λ p. ap (λ f. f p) c.gather.ensures.set ∙ ap (λ ms. places_of ms p) of.order ∙ places_in_order s p)
          (λ p. ap (λ f. f p) c.spread.ensures.set
          ∙ ap (λ hit. spread (linked r.relations.now.followers) r.order.now hit p) c.gather_struck.ensures.set
          ∙ fallen_so s valid r of within p)
          c.settle.new.self
          (subst (λ leaders. IsSettled leaders r.order.now c.gather.new.set c.spread.new.set c.settle.new.self)
          c.leaders.ensures c.settle.ensures.settled);
    }
