use Rattle.std.proofs.Common.{◌≡◌, ap, sym, subst, ◌∙◌}
use Rattle.std.proofs.lemmas.Option.{slice_get_within}
use Rattle.cm_model.specs.State.{State, is_chained}
use Rattle.rt_flight.specs.declared.context.CycleContext.{CycleContext}
use Rattle.rt_flight.specs.declared.robot.Robot.{Robot}
use Rattle.switch_plan.specs.Relations.{Related}
use Rattle.cm_desk.specs.Works.{has_precedent}
use Rattle.cm_desk.proofs.ActingLemmas.{chained_at}
use Rattle.cm_desk.proofs.works.Works.is_chained.Goals as goal

-- the relations that are at home are those of the description,
pub is_led_by-requires-clause-leaders : goal.is_led_by-requires-clause-leaders
is_led_by-requires-clause-leaders g c =
    rw (← c.self.view_is)
    (c.leaders.ensures
    ∙ ap (λ (k : CycleContext). k.robot.relations.leaders) c.deref.ensures
    ∙ ap (λ (w : Related). w.leaders)
    (rw (ap (λ (h : Robot). h.relations)
    (sym (rw (c.in-Some.is) at c.self.invariant.based.home).robot)) at c.self.invariant.worked_out.related))

-- in which it has its place
pub is_led_by-requires-clause-within : goal.is_led_by-requires-clause-within
is_led_by-requires-clause-within g c =
    rw (c.place.ensures)
    (slice_get_within c.args.self.now.description.controllers c.args.slot.now.place c.args.controller.now c.requires)

-- where they are away names are compared
pub returns-in-None : goal.returns-in-None
returns-in-None g c =
    subst (λ (t : State). c.has_precedent.result ≡ is_chained t c.args.controller.now) c.self.view_is
    (c.has_precedent.ensures ∙ ap (has_precedent c.self.inside.checked c.args.controller.now) c.as_slice.ensures)

pub returns-in-Some : goal.returns-in-Some
returns-in-Some g c =
    (rw (c.place.ensures) at c.is_led_by.ensures)
    ∙ chained_at c.args.self.now c.args.slot.now c.args.controller.now c.requires
