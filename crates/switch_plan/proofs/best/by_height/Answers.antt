use Rattle.std.proofs.Common.{◌<◌, suc, ◌∙◌, ap, length, get_or}
use Rattle.cm_model.specs.Scene.{controllers_in}
use Rattle.chain_order.proofs.RunLemmas.{by_rank-all}
use Rattle.switch_plan.specs.Relations.{Related}
use Rattle.switch_plan.specs.Settings.{set_scene}
use Rattle.switch_plan.proofs.JoinLemmas.{by_heights}
use Rattle.switch_plan.proofs.best.by_height.Goals as goal

-- by the heights of the relations
pub returns-in-Some-clause-within : goal.returns-in-Some-clause-within
returns-in-Some-clause-within c =
    let n = length (controllers_in (set_scene c.args.setting.now)) in
    rw c.in_ok-ordered.ensures
    (by_rank-all (λ m. m.place < n) (λ m. get_or c.heights.result.now m.place 0) (suc (length c.heights.result.now))
    c.args.coming.now c.requires.within)

pub returns-in-Some-clause-order : goal.returns-in-Some-clause-order
returns-in-Some-clause-order c =
    c.in_ok-ordered.ensures
    ∙ by_heights (set_scene c.args.setting.now) c.heights.result.now c.args.coming.now
    (c.heights.ensures ∙ ap (λ (w : Related). w.heights) (rw (c.in-Some.is) at c.requires.setting.relations))
    c.requires.within

-- by those that were worked out
pub returns-clause-within : goal.returns-clause-within
returns-clause-within c =
    let n = length (controllers_in (set_scene c.args.setting.now)) in
    rw c.in_ok-ordered-2.ensures
    (by_rank-all (λ m. m.place < n) (λ m. get_or c.deref.result.now m.place 0) (suc (length c.deref.result.now))
    c.args.coming.now c.requires.within)

pub returns-clause-order : goal.returns-clause-order
returns-clause-order c =
    c.in_ok-ordered-2.ensures
    ∙ by_heights (set_scene c.args.setting.now) c.deref.result.now c.args.coming.now
    (c.deref.ensures.value ∙ c.in_ok-heights.ensures) c.requires.within
