use Rattle.std.proofs.Common.{refl, sym, ap, subst, ◌∙◌, vec_capacity}
use Rattle.std.proofs.lemmas.Option.{same_Some}
use Rattle.cm_model.specs.Cycle.{cycle}
use Rattle.cm_model.specs.State.{State}
use Rattle.cm_slots.specs.Slots.{Slotted}
use Rattle.cm_resources.specs.CycleResources.{base_of}
use Rattle.cm_desk.specs.End.{CanLand}
use Rattle.cm_desk.specs.Works.{stand_ins_for, IsKept}
use Rattle.cm_desk.proofs.AfterLemmas.{ended_view}
use Rattle.cm_desk.proofs.FallbackLemmas.{stand_ins_after}
use Rattle.cm_desk.proofs.LandLemmas.{comes_home, kept_home}
use Rattle.cm_desk.proofs.Insides.{base_in, state_of}
use Rattle.cm_desk.proofs.works.Works.land.Goals as goal

pub bring_home-record-requires : goal.bring_home-record-requires
bring_home-record-requires g c =
    let a = c.self.inside in
    let s = state_of a in
    let lands : CanLand s c.args.flight = rw (← c.self.view_is) at c.requires in (
      s,
      comes_home s a.names.items a.resources (vec_capacity a.boxes) a.active_set a.slots c.args.flight
          c.self.invariant lands refl refl,
    )

pub one_more-self-inside-requires : goal.one_more-self-inside-requires
one_more-self-inside-requires g c =
    let a = c.self.inside in
    let s = state_of a in
    let lands : CanLand s c.args.flight = rw (← c.self.view_is) at c.requires in
    rw (c.description.ensures.same) (c.self.invariant.within lands.aloft)

-- and so the cycle has ended
pub invariant_of-self : goal.invariant_of-self
invariant_of-self g c =
    let a = c.self.inside in
    let s = state_of a in
    let lands : CanLand s c.args.flight = rw (← c.self.view_is) at c.requires in
    let home = c.bring_home-record.ensures.home s
    (comes_home s a.names.items a.resources (vec_capacity a.boxes) a.active_set a.slots c.args.flight c.self.invariant
    lands refl refl) in
    let b = c.bring_home-record.new.resources in
    let box_places = vec_capacity c.bring_home-record.new.boxes in
    let view = ended_view a.checked a.blanks a.sessions a.loads a.slots c.bring_home-record.new.slots a.requests
    (base_in a) (base_of b box_places) a.ended c.one_more-self-inside.result a.closed
    c.bring_home-record.new.active_set home.settled (ap (λ (x : Slotted). x.aloft) home.slots) home.no_mail
    c.one_more-self-inside.ensures
    (ap (stand_ins_for a.checked) home.erred ∙ stand_ins_after s lands.numbered) in
    subst (λ (t : State). IsKept t a.names.items (base_of b box_places) c.bring_home-record.new.active_set) (sym view)
    (kept_home s a.names.items a.resources b (vec_capacity a.boxes) box_places a.active_set
    c.bring_home-record.new.active_set a.slots c.bring_home-record.new.slots c.args.flight c.self.invariant lands home)

pub returns-clause-after : goal.returns-clause-after
returns-clause-after g c =
    let a = c.self.inside in
    let s = state_of a in
    let lands : CanLand s c.args.flight = rw (← c.self.view_is) at c.requires in
    let home = c.bring_home-record.ensures.home s
    (comes_home s a.names.items a.resources (vec_capacity a.boxes) a.active_set a.slots c.args.flight c.self.invariant
    lands refl refl) in
    let b = c.bring_home-record.new.resources in
    let box_places = vec_capacity c.bring_home-record.new.boxes in
    rw (← c.self.view_is)
    (ended_view a.checked a.blanks a.sessions a.loads a.slots c.bring_home-record.new.slots a.requests (base_in a)
    (base_of b box_places) a.ended c.one_more-self-inside.result a.closed
    c.bring_home-record.new.active_set home.settled (ap (λ (x : Slotted). x.aloft) home.slots) home.no_mail
    c.one_more-self-inside.ensures
    (ap (stand_ins_for a.checked) home.erred ∙ stand_ins_after s lands.numbered))

-- it tells what the flight tells
pub returns-clause-told : goal.returns-clause-told
returns-clause-told g c =
    same_Some c.bring_home-record.result (cycle c.args.self.now).happened
    (c.bring_home-record.ensures.told ∙ c.requires.computed.outcome)
