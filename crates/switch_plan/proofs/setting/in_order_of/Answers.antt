use Rattle.std.proofs.Common.{◌<◌, ◌∙◌, sym, length, arith}
use Rattle.std.proofs.lemmas.List.Elements.{All-weaker}
use Rattle.cm_model.specs.Scene.{controllers_in}
use Rattle.switch_plan.specs.View.{scene_of}
use Rattle.switch_plan.proofs.setting.in_order_of.Goals as goal

pub in_order-requires-clause-flags : goal.in_order-requires-clause-flags
in_order-requires-clause-flags c = c.requires.length ∙ sym c.requires.setting.rows

pub in_order-requires-clause-within : goal.in_order-requires-clause-within
in_order-requires-clause-within c =
    (All-weaker (λ m. m.place < length (controllers_in (scene_of c.args.setting.now.view)))
    (λ m. m.place < length c.args.setting.now.leaders.now)
    (λ m below. omega (arith, below, c.requires.setting.rows)) c.args.list.now c.requires.within)

pub returns-clause-within : goal.returns-clause-within
returns-clause-within c =
    All-weaker (λ m. m.place < length c.args.setting.now.leaders.now)
    (λ m. m.place < length (controllers_in (scene_of c.args.setting.now.view)))
    (λ m below. omega (arith, below, c.requires.setting.rows)) c.in_ok-ordered.ordered.items
    c.in_ok-ordered.ensures.within

pub returns-clause-order : goal.returns-clause-order
returns-clause-order c =
    c.in_ok-ordered.ensures.order (controllers_in (scene_of c.args.setting.now.view)) c.requires.setting.leaders
