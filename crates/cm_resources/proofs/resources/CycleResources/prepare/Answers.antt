use Rattle.std.proofs.Common.{◌≡◌, Option, sym, ap, subst, ◌∙◌}
use Rattle.std.specs.Prelude.{IfSome}
use Rattle.cm_storage.specs.declared.record_room.RecordRoom.{RecordRoom}
use Rattle.rt_flight.specs.Flights.{TellsNothing}
use Rattle.rt_flight.specs.declared.context.CycleContext.{CycleContext}
use Rattle.rt_flight.specs.declared.robot.Robot.{Robot}
use Rattle.cm_resources.specs.declared.resources.CycleResources.{CycleResources}
use Rattle.cm_resources.proofs.ReadyLemmas.{made_ready}
use Rattle.cm_resources.proofs.resources.CycleResources.prepare.Goals as goal

pub leave-idle_context-requires : goal.leave-idle_context-requires
leave-idle_context-requires c = c.requires.home

-- what was at home is that of the resources
pub prepare-answer-requires : goal.prepare-answer-requires
prepare-answer-requires c =
    let same : c.deref_mut.result.now.robot ≡ c.args.self.now.robot.value =
    ap (λ (k : CycleContext). k.robot) c.deref_mut.ensures.value ∙ c.leave-idle_context.ensures.left.robot in
    record {
      robot = rw (
        ap (λ (g : Robot). g.places) same,
        ap (λ (x : CycleResources). x.size) c.leave-idle_context.ensures.resources,
      ) c.requires.can.robot;
      kept = rw (
        ap (λ (g : Robot). g.places) same,
        ap (λ (x : CycleResources). x.buffers) c.leave-idle_context.ensures.resources,
        ap (λ (k : CycleContext). k.order.items) c.deref_mut.ensures.value ∙ c.leave-idle_context.ensures.left.order,
      )
          c.requires.can.kept;
      none_erred =
          ap (λ (k : CycleContext). k.erred.items) c.deref_mut.ensures.value ∙ c.leave-idle_context.ensures.left.erred
          ∙ c.requires.none_erred;
      told = subst (λ (o : Option RecordRoom). IfSome o TellsNothing)
          (sym (ap (λ (k : CycleContext). k.room) c.deref_mut.ensures.value)) c.leave-idle_context.ensures.left.told;
    }

pub returns-clause-resources : goal.returns-clause-resources
returns-clause-resources c =
    made_ready _ c.leave-idle_context.new.self _ c.leave-idle_context.result _ _ c.prepare-answer.new.buffers
    c.leave-idle_context.ensures.left c.leave-idle_context.ensures.resources c.deref_mut.ensures.value
    c.put_back.ensures.resources c.put_back.ensures.members c.prepare-answer.ensures.context
    c.prepare-answer.ensures.kept
