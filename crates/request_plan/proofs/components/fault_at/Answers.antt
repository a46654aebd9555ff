use Rattle.std.proofs.Common.{length, map, sym, ap, ◌∙◌}
use Rattle.std.proofs.lemmas.List.{get_or_default}
use Rattle.cm_document.specs.declared.life.Life.TheVariants.{Unconfigured}
use Rattle.cm_model.specs.declared.member.Member.{Member}
use Rattle.request_plan.proofs.ActLemmas.{fault_is, places_within}
use Rattle.request_plan.proofs.components.fault_at.Goals as goal

pub order-requires-clause-within : goal.order-requires-clause-within
order-requires-clause-within c = rw c.deref.ensures.value c.requires.can.situation.within

pub move_fault-requires-clause-within : goal.move_fault-requires-clause-within
move_fault-requires-clause-within c =
    places_within (length c.args.checked.now.controllers) c.in_ok-members.members.items c.deref-3.result.now
    (c.deref-3.ensures.value ∙ c.in_ok-places.ensures ∙ ap (map (λ (m : Member). m.place)) c.deref-2.ensures.value)
    c.in_ok-members.ensures.within

pub returns : goal.returns
returns c = λ s seen.
    fault_is s c.args.checked.now c.args.situation.now seen c.args.place c.index-life.result.now c.args.target
    c.deref-3.result.now c.in_ok-members.members.items c.in_ok-fault.fault
    (get_or_default c.args.situation.now.lives.items c.args.place Unconfigured c.index-life.result.now c.requires.within
    ∙ sym c.index-life.ensures)
    c.deref.result.now c.deref.ensures.value c.in_ok-members.ensures.order
    (c.deref-3.ensures.value ∙ c.in_ok-places.ensures ∙ ap (map (λ (m : Member). m.place)) c.deref-2.ensures.value)
    c.in_ok-fault.ensures
