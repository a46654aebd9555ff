use Rattle.std.proofs.Common.{◌≡◌, [], true, length, map, refl, sym, ap, subst, ◌∙◌, arith, vec_capacity}
use Rattle.std.specs.Prelude.{◌==◌, ◌&&◌}
use Rattle.std.proofs.lemmas.Bool.{and_parts}
use Rattle.cm_model.specs.Cycle.{begun}
use Rattle.cm_model.specs.State.{State}
use Rattle.cm_model.specs.declared.reply.Reply.TheVariants as reply
use Rattle.cm_resources.specs.CycleResources.{base_of}
use Rattle.cm_desk.specs.Begin.{none_waits, CanTakeOff, HasTakenOff}
use Rattle.cm_desk.specs.Works.{stand_ins_for, IsKept, state_with}
use Rattle.cm_resources.specs.declared.resources.CycleResources.{CycleResources}
use Rattle.cm_desk.proofs.AfterLemmas.{at_home, kept_ready, kept_with_room}
use Rattle.cm_desk.proofs.BeginLemmas.{begins_down, nil_where, nobody_for, nothing_waits, quiet_boundary}
use Rattle.cm_desk.proofs.BeginLemmas.{quiet_decisions, HasDecided, has_decided, view_flown}
use Rattle.cm_resources.proofs.OrderLemmas.{order_within}
use Rattle.cm_desk.proofs.TakeOffLemmas.{can_take_off, kept_off}
use Rattle.cm_desk.proofs.Insides.{base_in, state_of}
use Rattle.cm_desk.proofs.works.Works.begin.Given.{Over}
use Rattle.cm_desk.proofs.works.Works.begin.Goals as goal

-- what works in a cycle is at home
pub erred-requires : goal.erred-requires
erred-requires g c =
    let a = c.self.inside in
    let s = state_of a in
    at_home a.checked a.active_set.order a.resources (vec_capacity a.boxes) a.slots.aloft c.self.invariant.based
    (begins_down s (rw (← c.self.view_is) at c.requires.can))

pub begin_anew-requires : goal.begin_anew-requires
begin_anew-requires g c = c.requires

-- what works in a cycle can be prepared where it stands: no update failed, and who is active is described
pub prepare-requires : goal.prepare-requires
prepare-requires g c =
    let a = c.self.inside in
    let s = state_of a in
    let down = begins_down s (rw (← c.self.view_is) at c.requires.can) in
    let all = and_parts (a.active_set.current && none_waits a.requests.requests a.requests.outcomes)
    (length c.erred.result.now == 0) (sym c.is_settled.ensures ∙ c.if-not-is_settled.false) in
    let settled = and_parts a.active_set.current (none_waits a.requests.requests a.requests.outcomes) all.0 in record {
      home = at_home a.checked a.active_set.order a.resources (vec_capacity a.boxes) a.slots.aloft
          c.self.invariant.based down;
      none_erred = sym c.erred.ensures ∙ nil_where c.erred.result.now all.1;
      can = record {
        robot = record {
          places = c.self.invariant.worked_out.placed;
          size = c.self.invariant.based.size;
          within = rw (c.order.ensures, c.self.invariant.listed.order settled.0)
              (order_within s c.self.invariant.described);
        };
        kept = record { fitted = c.self.invariant.based.fitted; ordered = c.self.invariant.based.ordered down };
      };
    }

-- where memory ran out the state is as before
pub invariant_of-self : goal.invariant_of-self
invariant_of-self g c =
    kept_with_room c.self.inside (vec_capacity c.make_places.new.boxes) c.self.invariant
    (begins_down (state_of c.self.inside) (rw (← c.self.view_is) at c.requires.can))

-- what others left over may be used up then
pub invariant_of-self-in_err-prepare : goal.invariant_of-self-in_err-prepare
invariant_of-self-in_err-prepare g c =
    kept_ready c.self.inside c.prepare.new.self (vec_capacity c.make_places.new.boxes) c.self.invariant
    (begins_down (state_of c.self.inside) (rw (← c.self.view_is) at c.requires.can))
    c.prepare.ensures.resources

-- nobody else is active than in the cycle before, and nothing waits,
settled : (g : Over) (c : goal.After-take_off-arg-3-1 g)
    → (c.self.inside.active_set.current ≡ true)
    × (none_waits c.self.inside.requests.requests c.self.inside.requests.outcomes ≡ true)
settled g c = and_parts _ _ (and_parts _ _ (sym c.is_settled.ensures ∙ c.if-not-is_settled.false)).0

-- nor is anybody to stand in,
nobody : (g : Over) (c : goal.After-take_off-arg-3-1 g) → (state_of c.self.inside).fallbacks ≡ []
nobody g c =
    let none : (length c.erred.result.now == 0) ≡ true =
    (and_parts _ _ (sym c.is_settled.ensures ∙ c.if-not-is_settled.false)).1 in
    ap (stand_ins_for c.self.inside.checked) (sym c.erred.ensures)
    ∙ nobody_for c.self.inside.checked c.erred.result.now none

-- so what is decided changes nothing,
decided : (g : Over) (c : goal.After-take_off-arg-3-1 g) → HasDecided (state_of c.self.inside) (state_of c.self.inside)
decided g c =
    let s = state_of c.self.inside in
    has_decided s s (sym (quiet_boundary s (nobody g c) (nothing_waits s (settled g c).1)))
    c.self.invariant.worked_out.valid
    (rw (← c.self.view_is) at c.requires.can) (rw (← c.self.view_is) at c.requires.steady)
    (rw (← c.self.view_is) at c.requires.numbered)

-- and the cycle can take off
flies : (g : Over) (c : goal.After-take_off-arg-3-1 g)
    → CanTakeOff (state_of c.self.inside) c.self.inside.slots c.run.result.now c.prepare.new.self
    (map g.C.Controller.meaning c.make_places.new.boxes.items) (vec_capacity c.make_places.new.boxes)
    c.replace-cells.result.items (vec_capacity c.replace-cells.result) c.self.inside.ended
flies g c =
    let a = c.self.inside in
    let s = state_of a in
    let many = ap length c.order-count.ensures in
    rw (c.run.ensures)
    (can_take_off s s a.names.items a.resources c.prepare.new.self (vec_capacity a.boxes) a.active_set a.active_set
    a.slots (map g.C.Controller.meaning c.make_places.new.boxes.items) (vec_capacity c.make_places.new.boxes)
    c.replace-cells.result.items (vec_capacity c.replace-cells.result) a.ended c.self.invariant (decided g c)
    c.self.invariant.listed (settled g c).0 c.prepare.ensures.resources
    refl refl refl (rw (c.order.ensures, c.len.ensures) at c.in_ok-prepare.ensures.prepared)
    (ap (map g.C.Controller.meaning) c.in_ok-make_places.ensures.boxes.0)
    (omega (arith, c.in_ok-make_places.ensures.boxes.1, many))
    (rw (c.replace-cells.ensures.value) c.in_ok-make_places.ensures.cells.0)
    (omega (arith, c.in_ok-make_places.ensures.cells.1, many, ap vec_capacity c.replace-cells.ensures.value)))

pub take_off-flight-requires : goal.take_off-flight-requires
take_off-flight-requires g c = (state_of c.self.inside, flies g c)

-- where it took off the state is that of the cycle which began
begun_there : (g : Over) (c : goal.After-none g)
    → HasTakenOff (state_of c.self.inside) c.self.inside.slots c.take_off-flight.new.slots c.prepare.new.self
    c.take_off-flight.new.resources c.take_off-flight.result
    → state_with c.self.inside.checked c.self.inside.blanks c.self.inside.sessions c.self.inside.loads
    c.take_off-flight.new.slots c.self.inside.requests
    (base_of c.take_off-flight.new.resources (vec_capacity c.take_off-flight.new.boxes)) c.self.inside.ended
    c.self.inside.closed ≡ begun (state_of c.self.inside)
begun_there g c off =
    let a = c.self.inside in
    view_flown a.checked a.blanks a.sessions a.loads a.slots c.take_off-flight.new.slots a.requests (base_in a)
    (base_of c.take_off-flight.new.resources (vec_capacity c.take_off-flight.new.boxes))
    a.ended a.closed off.slots off.mails
    (ap (λ (x : CycleResources). x.robot.value) off.resources
    ∙ ap (λ (x : CycleResources). x.robot.value) c.prepare.ensures.resources.resources)
    (ap (stand_ins_for a.checked)
    (ap (λ (x : CycleResources). x.erred.value.items) off.resources
    ∙ ap (λ (x : CycleResources). x.erred.value.items) c.prepare.ensures.resources.resources))

-- the cycle is aloft
pub invariant_of-self-2 : goal.invariant_of-self-2
invariant_of-self-2 g c =
    let a = c.self.inside in
    let s = state_of a in
    let before = c.before.before in
    let off = c.take_off-flight.ensures.off s (flies g before) in
    let b = c.take_off-flight.new.resources in
    let box_places = vec_capacity c.take_off-flight.new.boxes in
    subst (λ (t : State). IsKept t a.names.items (base_of b box_places) a.active_set) (sym (begun_there g c off))
    (kept_off s s a.names.items a.resources c.prepare.new.self b (vec_capacity a.boxes) box_places a.active_set
    a.active_set a.slots c.take_off-flight.new.slots c.take_off-flight.result c.self.invariant (decided g before)
    c.self.invariant.listed (settled g before).0 c.prepare.ensures.resources off
    (omega (
      arith,
      c.in_ok-make_places.ensures.boxes.1,
      ap length c.order-count.ensures,
      c.take_off-flight.ensures.room,
    )))

-- it began in the state of now, since nothing was decided
pub returns-clause-begun : goal.returns-clause-begun
returns-clause-begun g c =
    let s = state_of c.self.inside in
    let before = c.before.before in
    let off = c.take_off-flight.ensures.off s (flies g before) in
    let view = begun_there g c off in
    let waits = nothing_waits s (settled g before).1 in
    rw (← c.self.view_is) (record {
      begun = view ∙ ap begun (sym (quiet_boundary s (nobody g before) waits));
      told = ap reply.Decisions (c.none.ensures ∙ sym (quiet_decisions s (nobody g before) waits));
      aloft = rw view off.flight;
    })
