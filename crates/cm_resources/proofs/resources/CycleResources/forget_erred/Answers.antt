use Rattle.std.proofs.Common.{Option, refl, sym, ap, subst, ◌∙◌}
use Rattle.std.specs.Prelude.{IfSome}
use Rattle.cm_storage.specs.declared.record_room.RecordRoom.{RecordRoom}
use Rattle.rt_flight.specs.Flights.{TellsNothing}
use Rattle.rt_flight.specs.declared.context.CycleContext.{CycleContext}
use Rattle.cm_resources.specs.declared.resources.CycleResources.{CycleResources}
use Rattle.cm_resources.proofs.resources.CycleResources.forget_erred.Goals as goal

pub leave-idle_context-requires : goal.leave-idle_context-requires
leave-idle_context-requires c = c.requires

-- what works in a cycle is at home again, and all but its list is as it was
pub returns : goal.returns
returns c =
    let left = c.leave-idle_context.ensures.left in
    let away = c.leave-idle_context.ensures.resources in
    let taken = c.deref_mut.ensures.value in
    let erred = ap (λ x. x.items) (c.of.ensures ∙ ap (λ (k : CycleContext). k.erred) c.deref.ensures) in
    record {
      resources = rw away refl;
      home = record {
        robot = ap (λ (k : CycleContext). k.robot) taken ∙ left.robot
            ∙ sym (ap (λ (b : CycleResources). b.robot.value) away);
        ending = ap (λ (k : CycleContext). k.ending) taken ∙ left.ending
            ∙ sym (ap (λ (b : CycleResources). b.ending.value) away);
        order = ap (λ (k : CycleContext). k.order.items) taken ∙ left.order
            ∙ sym (ap (λ (b : CycleResources). b.members.value.items) away);
        erred = sym erred;
        next_lists =
            ap (λ (k : CycleContext). k.lists) taken ∙ left.next_lists
            ∙ sym (ap (λ (b : CycleResources). b.next_lists.value) away);
        told = subst (λ (o : Option RecordRoom). IfSome o TellsNothing) (sym (ap (λ (k : CycleContext). k.room) taken))
            left.told;
      };
      none_erred = erred ∙ c.empty.ensures.items;
    }
