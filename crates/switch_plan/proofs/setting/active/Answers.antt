use Rattle.std.proofs.Common.{◌∙◌, ap}
use Rattle.cm_model.specs.Order.{places_of}
use Rattle.switch_plan.proofs.ChangeLemmas.{running_places}
use Rattle.switch_plan.proofs.setting.active.Goals as goal

pub returns-clause-set : goal.returns-clause-set
returns-clause-set c = λ p.
    ap (λ f. f p) c.in_ok-set.ensures.set
    ∙ ap (λ ms. places_of ms p) (c.deref.ensures.value ∙ c.in_ok-members.ensures.list)
    ∙ running_places c.args.view.now.loaded.now p
