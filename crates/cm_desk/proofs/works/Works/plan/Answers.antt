use Rattle.std.proofs.Common.{vec_capacity, refl, sym, ap, ◌∙◌}
use Rattle.rt_flight.specs.declared.context.CycleContext.{CycleContext}
use Rattle.rt_flight.specs.declared.robot.Robot.{Robot}
use Rattle.cm_desk.specs.Works.{stand_ins_for}
use Rattle.cm_desk.proofs.ActingLemmas.{stands_so, seen_so}
use Rattle.cm_desk.proofs.AfterLemmas.{at_home}
use Rattle.cm_desk.proofs.Insides.{state_of}
use Rattle.cm_desk.proofs.works.Works.plan.Goals as goal

-- what works in a cycle is at home
pub erred-requires : goal.erred-requires
erred-requires g c =
    let a = c.self.inside in
    at_home a.checked a.active_set.order a.resources (vec_capacity a.boxes) a.slots.aloft c.self.invariant.based
    (rw (← c.self.view_is) at c.requires.down)

pub plan-requires-clause-relations : goal.plan-requires-clause-relations
plan-requires-clause-relations g c =
    ap (λ (k : CycleContext). k.robot.relations) c.deref.ensures
    ∙ (rw (ap (λ (h : Robot). h.relations)
    (sym (rw (c.in-Some.is) at c.self.invariant.based.home).robot)) at c.self.invariant.worked_out.related)

pub plan-requires-clause-situation : goal.plan-requires-clause-situation
plan-requires-clause-situation g c =
    let a = c.self.inside in
    let s = state_of a in
    stands_so s c.in_ok-situation.situation c.self.invariant.described (rw (← c.self.view_is) at c.requires.steady)
    (rw (← c.self.view_is) at c.in_ok-situation.ensures.loaded)
    (rw (← c.self.view_is) at c.in_ok-situation.ensures.lives)

pub returns : goal.returns
returns g c =
    let a = c.self.inside in
    let s = state_of a in
    let seen = seen_so s c.in_ok-situation.situation (rw (← c.self.view_is) at c.requires.steady)
    (rw (← c.self.view_is) at c.requires.numbered)
    (rw (← c.self.view_is) at c.in_ok-situation.ensures.loaded)
    (rw (← c.self.view_is) at c.in_ok-situation.ensures.lives) in
    let names = ap (stand_ins_for a.checked) (sym c.erred.ensures) ∙ sym c.in_ok-names.ensures in
    rw (← c.self.view_is) (c.in_ok-plan.ensures s (record { requests = refl; outcomes = refl }) names seen)
