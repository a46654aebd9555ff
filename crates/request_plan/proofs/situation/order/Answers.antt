use Rattle.std.proofs.Common.{◌<◌, length, ap, ap₂, sym, subst, ◌∙◌}
use Rattle.std.specs.List.{All}
use Rattle.cm_model.specs.Order.{in_order}
use Rattle.cm_model.specs.Scene.{is_running}
use Rattle.switch_plan.specs.Relations.{Related}
use Rattle.request_plan.proofs.SetLemmas.{listed_within, listed_set, leaders_long}
use Rattle.request_plan.proofs.situation.order.Goals as goal

pub as_set-requires : goal.as_set-requires
as_set-requires c =
    listed_within (length c.args.checked.now.controllers) (λ l. is_running l.life) c.args.loaded.now c.deref.result.now
    (c.deref.ensures.value ∙ c.in_ok-members.ensures) c.requires.within

pub in_order-requires-clause-flags : goal.in_order-requires-clause-flags
in_order-requires-clause-flags c =
    c.in_ok-set.ensures.length
    ∙ sym (ap length c.leaders.ensures ∙ leaders_long c.args.relations.now c.args.checked.now c.requires.relations)

pub in_order-requires-clause-within : goal.in_order-requires-clause-within
in_order-requires-clause-within c =
    subst (λ n. All (λ m. m.place < n) c.deref-2.result.now)
    (sym (ap length c.leaders.ensures ∙ leaders_long c.args.relations.now c.args.checked.now c.requires.relations))
    (listed_within (length c.args.checked.now.controllers) (λ l. is_running l.life) c.args.loaded.now
    c.deref-2.result.now (c.deref-2.ensures.value ∙ c.in_ok-members.ensures) c.requires.within)

pub returns-clause-within : goal.returns-clause-within
returns-clause-within c =
    subst (λ n. All (λ m. m.place < n) c.in_ok-list.list.items)
    (ap length c.leaders.ensures ∙ leaders_long c.args.relations.now c.args.checked.now c.requires.relations)
    c.in_ok-list.ensures.within

pub returns-clause-order : goal.returns-clause-order
returns-clause-order c =
    c.in_ok-list.ensures.order c.args.checked.now.controllers
    (c.leaders.ensures ∙ ap (λ (w : Related). w.leaders) c.requires.relations)
    ∙ ap₂ (in_order c.args.checked.now.controllers)
    (c.in_ok-set.ensures.set
    ∙ listed_set (λ l. is_running l.life) c.args.loaded.now c.deref.result.now
    (c.deref.ensures.value ∙ c.in_ok-members.ensures))
    (c.deref-2.ensures.value ∙ c.in_ok-members.ensures)
