use Rattle.std.proofs.Common.{◌≡◌, ◌+◌, ◌≤◌, length, true, Some, vec_capacity, refl, subst, arith}
use Rattle.cm_document.specs.declared.call.Call.TheVariants.{End}
use Rattle.cm_model.specs.Cycle.{cycle}
use Rattle.cm_model.specs.Machine.{step}
use Rattle.cm_model.specs.Scheduled.{with_entry}
use Rattle.cm_model.specs.declared.reply.Reply.TheVariants.{Cycle}
use Rattle.cm_model.specs.State.{State}
use Rattle.sound_laws.proofs.BetweenLemmas.{HasBegun}
use Rattle.cm_desk.specs.Desk.{begun_of, owed, seen}
use Rattle.cm_desk.specs.End.{CanLand}
use Rattle.cm_desk.proofs.BegunLemmas.{has_begun, can_land}
use Rattle.cm_desk.proofs.RecordLemmas.{Recorded, recorded, few_owed, room_owed, owed-end, end-few, end_step}
use Rattle.cm_desk.proofs.desk.Desk.land.Given.{Over}
use Rattle.cm_desk.proofs.desk.Desk.land.Goals as goal

-- the flight can land
lands : (g : Over) (c : goal.After-push_reserved g) → CanLand c.self.inside.works c.args.flight
lands g c =
    let a = c.self.inside in
    let h = seen a.at_boot a.works a.history.items in
    let begun : HasBegun (begun_of h) a.works =
    subst (λ (t : State). HasBegun (begun_of h) t) c.self.invariant.0.ends (has_begun h c.self.invariant.0.legal) in
    can_land (begun_of h) a.works c.args.flight begun (rw (← c.self.view_is) at c.requires.flight)
    c.self.invariant.0.steady c.self.invariant.0.numbered

pub land-record-requires : goal.land-record-requires
land-record-requires g c =
    let a = c.self.inside in
    let h = seen a.at_boot a.works a.history.items in
    let begun : HasBegun (begun_of h) a.works =
    subst (λ (t : State). HasBegun (begun_of h) t) c.self.invariant.0.ends (has_begun h c.self.invariant.0.legal) in
    can_land (begun_of h) a.works c.args.flight begun (rw (← c.self.view_is) at c.requires.flight)
    c.self.invariant.0.steady c.self.invariant.0.numbered

-- the end is owed
pub push_reserved-requires : goal.push_reserved-requires
push_reserved-requires g c =
    let a = c.self.inside in
    let h = seen a.at_boot a.works a.history.items in
    let begun : HasBegun (begun_of h) a.works =
    subst (λ (t : State). HasBegun (begun_of h) t) c.self.invariant.0.ends (has_begun h c.self.invariant.0.legal) in
    let lands = can_land (begun_of h) a.works c.args.flight begun (rw (← c.self.view_is) at c.requires.flight)
    c.self.invariant.0.steady c.self.invariant.0.numbered in
    omega (arith, c.self.invariant.0.room, owed-end a.works (cycle a.works) lands.aloft)

-- the end is a step, and has one entry, which was owed
entry : (g : Over) (c : goal.After-push_reserved g)
    → Recorded c.self.inside.at_boot c.self.inside.works c.land-record.new.self c.self.inside.history.items
    c.push_reserved.new.self.items
    c.self.inside.works.sessions (End c.self.inside.works.ended) (Cycle (cycle c.self.inside.works).happened)
    (vec_capacity c.push_reserved.new.self) (vec_capacity c.self.inside.boxes)
entry g c =
    let a = c.self.inside in
    let s = a.works in
    let who = s.sessions in
    let call = End s.ended in
    let reply = Cycle (cycle s).happened in
    let after = c.land-record.ensures.after in
    let aloft : s.aloft ≡ true = (lands g c).aloft in
    let grown : c.push_reserved.new.self.items ≡ with_entry a.history.items who call reply =
    rw (
      c.push_reserved.ensures.items,
      c.sessions-who.ensures,
      c.end.ensures,
      c.ended-cycle.ensures,
      c.land-record.ensures.told,
    ) refl in
    let stepped : step s who call ≡ Some (c.land-record.new.self, reply) = rw after (end_step s aloft) in
    let room : length a.history.items + owed s ≤ vec_capacity c.push_reserved.new.self =
    omega (arith, c.push_reserved.ensures.capacity, c.self.invariant.0.room) in
    let less : owed c.land-record.new.self + 1 ≡ owed s = rw after (owed-end s (cycle s) aloft) in
    recorded _ _ _ _ _ _ _ _ _ _ _ _ c.self.invariant.0 stepped grown
    (few_owed s c.land-record.new.self a.history.items _ who call reply c.self.invariant.0.few less grown)
    (room_owed s c.land-record.new.self a.history.items _ who call reply _ room less grown)
    (rw (after, end-few s) c.self.invariant.0.places)

pub invariant_of-self : goal.invariant_of-self
invariant_of-self g c = ((entry g c).keeps, c.self.invariant.1)

pub returns : goal.returns
returns g c = record { made = rw (← c.self.view_is, c.self.invariant.0.ends) (entry g c).grows }
