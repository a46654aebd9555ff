use Rattle.std.proofs.Common.{◌≡◌, ◌≤◌, [], length, map, None, refl, sym, ap, subst, ◌∙◌, arith}
use Rattle.std.specs.Prelude.{slice_index_or, vec_capacity}
use Rattle.cm_model.specs.Boundary.{boundary}
use Rattle.cm_model.specs.Cycle.{begun}
use Rattle.cm_model.specs.State.{State}
use Rattle.cm_model.specs.declared.reply.Reply.TheVariants as reply
use Rattle.cm_places.specs.Placed.{placed_of}
use Rattle.request_plan.specs.Plans.{IsPlanOf}
use Rattle.sound_laws.proofs.FallbackLemmas.{begin_leaves_none}
use Rattle.stop_plan.specs.Ending.{members_in_order}
use Rattle.cm_resources.specs.CycleResources.{base_of, IsMadeReady}
use Rattle.cm_desk.specs.Begin.{CanTakeOff, HasTakenOff}
use Rattle.cm_resources.specs.ActiveSet.{IsListedOf}
use Rattle.cm_resources.specs.CycleNeeds.{AreNeeds}
use Rattle.cm_desk.specs.Works.{stand_ins_for, IsKept, state_with}
use Rattle.cm_resources.specs.declared.resources.CycleResources.{CycleResources}
use Rattle.cm_desk.proofs.AfterLemmas.{at_home, used_view, kept_ready, err_holds}
use Rattle.cm_desk.proofs.ForgottenLemmas.{kept_forgotten, kept_then, left_then}
use Rattle.cm_desk.proofs.BeginLemmas.{begins_down, planned_order, HasDecided, has_decided, order_decided, view_flown}
use Rattle.cm_resources.proofs.OrderLemmas.{order_loaded}
use Rattle.cm_desk.proofs.TakeOffLemmas.{can_take_off, kept_off}
use Rattle.cm_desk.proofs.Insides.{base_in, state_of}
use Rattle.cm_desk.proofs.works.Works.begin_anew.Given.{Over}
use Rattle.cm_desk.proofs.works.Works.begin_anew.Goals as goal

pub plan-requires-clause-down : goal.plan-requires-clause-down
plan-requires-clause-down g c =
    let a = c.self.inside in
    let s = state_of a in
    rw (← c.self.view_is) (begins_down s (rw (← c.self.view_is) at c.requires.can))

-- all is at home, and who is active after all that is decided is described
pub take_memory-requires : goal.take_memory-requires
take_memory-requires g c =
    let a = c.self.inside in
    let s = state_of a in
    let down = begins_down s (rw (← c.self.view_is) at c.requires.can) in
    let planned : IsPlanOf s c.in_ok-plan.plan =
    subst (λ (u : State). IsPlanOf u c.in_ok-plan.plan) (sym c.self.view_is) c.in_ok-plan.ensures in
    let order : c.in_ok-plan.plan.order.items ≡ members_in_order (boundary s) =
    planned_order s c.in_ok-plan.plan planned in (
      at_home a.checked a.active_set.order a.resources (vec_capacity a.boxes) a.slots.aloft c.self.invariant.based down,
      record {
        robot = record {
          places = c.self.invariant.worked_out.placed;
          size = c.self.invariant.based.size;
          within = rw (c.deref.ensures.value, order) (order_decided s c.self.invariant.described);
        };
        kept = record { fitted = c.self.invariant.based.fitted; ordered = c.self.invariant.based.ordered down };
      },
    )

-- where memory ran out the state is as before
pub invariant_of-self : goal.invariant_of-self
invariant_of-self g c =
    kept_ready c.self.inside c.take_memory.new.resources (vec_capacity c.take_memory.new.boxes) c.self.invariant
    (begins_down (state_of c.self.inside) (rw (← c.self.view_is) at c.requires.can))
    c.take_memory.ensures.resources

pub returns-in_err-taken-clause-kept : goal.returns-in_err-taken-clause-kept
returns-in_err-taken-clause-kept g c =
    err_holds c.from_residual-in_err-taken.result
    (used_view c.self.inside c.take_memory.new.resources (vec_capacity c.take_memory.new.boxes)
    c.take_memory.ensures.resources ∙ c.self.view_is)

-- what works in a cycle stays at home, and forgets whose update failed,
pub forget_erred-requires : goal.forget_erred-requires
forget_erred-requires g c = c.take_memory.ensures.resources.home

-- so nobody is to stand in any more, and all else is kept
pub invariant_of-self-2 : goal.invariant_of-self-2
invariant_of-self-2 g c =
    kept_then c.self.inside c.take_memory.new.resources c.forget_erred.new.self (vec_capacity c.replace-boxes.new.dest)
    c.take_memory.ensures.resources c.forget_erred.ensures
    c.self.invariant (begins_down (state_of c.self.inside) (rw (← c.self.view_is) at c.requires.can))

pub carry_out-requires-clause-down : goal.carry_out-requires-clause-down
carry_out-requires-clause-down g c =
    let a = c.self.inside in
    let s = state_of a in
    begins_down s (rw (← c.self.view_is) at c.requires.can)

-- what was planned is left to be done
pub carry_out-requires-clause-can : goal.carry_out-requires-clause-can
carry_out-requires-clause-can g c =
    let a = c.self.inside in
    let s = state_of a in
    let planned : IsPlanOf s c.in_ok-plan.plan =
    subst (λ (u : State). IsPlanOf u c.in_ok-plan.plan) (sym c.self.view_is) c.in_ok-plan.ensures in (
      s,
      left_then a c.take_memory.new.resources c.forget_erred.new.self (vec_capacity c.replace-boxes.new.dest)
          c.take_memory.ensures.resources c.forget_erred.ensures
          c.in_ok-plan.plan (rw (← c.self.view_is) at c.requires.steady) planned,
    )

-- ---- All is decided

pub put-requires-clause-loaded : goal.put-requires-clause-loaded
put-requires-clause-loaded g c =
    let a = c.self.inside in
    let s = state_of a in
    let b = c.self-2.inside in
    let t = state_of b in
    let planned : IsPlanOf s c.in_ok-plan.plan =
    subst (λ (u : State). IsPlanOf u c.in_ok-plan.plan) (sym c.self.view_is) c.in_ok-plan.ensures in
    let left = left_then a c.take_memory.new.resources c.forget_erred.new.self (vec_capacity c.replace-boxes.new.dest)
    c.take_memory.ensures.resources c.forget_erred.ensures
    c.in_ok-plan.plan (rw (← c.self.view_is) at c.requires.steady) planned in
    let is : t ≡ boundary s = c.self-2.view_is ∙ c.carry_out.ensures s left in
    let order : c.in_ok-plan.plan.order.items ≡ members_in_order t =
    planned_order s c.in_ok-plan.plan planned ∙ ap members_in_order (sym is) in
    rw (c.as_slice.ensures, order) (order_loaded t)

pub put-requires-clause-room : goal.put-requires-clause-room
put-requires-clause-room g c = omega (arith, c.in_ok-taken.ensures.taken.0, ap length c.deref.ensures.value)

pub put-requires-clause-few : goal.put-requires-clause-few
put-requires-clause-few g c =
    omega (arith, ap length c.as_slice.ensures, c.self-2.invariant.few, c.self-2.invariant.counted)

-- what works in a cycle is at home then, and the list is empty,
pub forget_erred-requires-2 : goal.forget_erred-requires-2
forget_erred-requires-2 g c =
    let a = c.self.inside in
    let s = state_of a in
    let b = c.self-2.inside in
    let t = state_of b in
    let planned : IsPlanOf s c.in_ok-plan.plan =
    subst (λ (u : State). IsPlanOf u c.in_ok-plan.plan) (sym c.self.view_is) c.in_ok-plan.ensures in
    let left = left_then a c.take_memory.new.resources c.forget_erred.new.self (vec_capacity c.replace-boxes.new.dest)
    c.take_memory.ensures.resources c.forget_erred.ensures
    c.in_ok-plan.plan (rw (← c.self.view_is) at c.requires.steady) planned in
    let is : t ≡ boundary s = c.self-2.view_is ∙ c.carry_out.ensures s left in
    let after = has_decided s t is c.self.invariant.worked_out.valid (rw (← c.self.view_is) at c.requires.can)
    (rw (← c.self.view_is) at c.requires.steady) (rw (← c.self.view_is) at c.requires.numbered) in
    at_home b.checked b.active_set.order b.resources (vec_capacity b.boxes) b.slots.aloft c.self-2.invariant.based
    after.down

-- and so what was prepared comes to it
pub take_in-requires-clause-home : goal.take_in-requires-clause-home
take_in-requires-clause-home g c = c.forget_erred-2.ensures.home

pub take_in-requires-clause-none_erred : goal.take_in-requires-clause-none_erred
take_in-requires-clause-none_erred g c = c.forget_erred-2.ensures.none_erred

-- ---- The cycle takes off in the state after that

-- it is the state of now,
decided_there : (g : Over) (c : goal.After-take_off-arg-3-1 g)
    → state_of c.self-2.inside ≡ boundary (state_of c.self.inside)
decided_there g c =
    let a = c.self.inside in
    let s = state_of a in
    let planned : IsPlanOf s c.in_ok-plan.plan =
    subst (λ (u : State). IsPlanOf u c.in_ok-plan.plan) (sym c.self.view_is) c.in_ok-plan.ensures in
    c.self-2.view_is
    ∙ c.carry_out.ensures s
    (left_then a c.take_memory.new.resources c.forget_erred.new.self (vec_capacity c.replace-boxes.new.dest)
    c.take_memory.ensures.resources c.forget_erred.ensures
    c.in_ok-plan.plan (rw (← c.self.view_is) at c.requires.steady) planned)

decided : (g : Over) (c : goal.After-take_off-arg-3-1 g)
    → HasDecided (state_of c.self.inside) (state_of c.self-2.inside)
decided g c =
    has_decided (state_of c.self.inside) (state_of c.self-2.inside) (decided_there g c)
    c.self.invariant.worked_out.valid
    (rw (← c.self.view_is) at c.requires.can) (rw (← c.self.view_is) at c.requires.steady)
    (rw (← c.self.view_is) at c.requires.numbered)

planned : (g : Over) (c : goal.After-take_off-arg-3-1 g) → IsPlanOf (state_of c.self.inside) c.in_ok-plan.plan
planned g c = subst (λ (u : State). IsPlanOf u c.in_ok-plan.plan) (sym c.self.view_is) c.in_ok-plan.ensures

-- nobody is to stand in in it,
nobody : (g : Over) (c : goal.After-take_off-arg-3-1 g) → (state_of c.self-2.inside).fallbacks ≡ []
nobody g c = ap (λ (t : State). t.fallbacks) (decided_there g c) ∙ begin_leaves_none (state_of c.self.inside)

-- its controllers are listed anew,
listed : (g : Over) (c : goal.After-take_off-arg-3-1 g) → IsListedOf (state_of c.self-2.inside) c.put.new.self
listed g c =
    let kept = c.self-2.invariant in record {
      active = record {
        counted = ap length c.put.ensures.active ∙ kept.listed.active.counted;
        told =
            λ p below. ap (λ found. slice_index_or found p None) c.put.ensures.active ∙ kept.listed.active.told p below;
      };
      order = λ current. c.put.ensures.order ∙ planned_order (state_of c.self.inside) c.in_ok-plan.plan (planned g c)
          ∙ ap members_in_order (sym (decided_there g c));
      run = λ current. rw (c.put.ensures.order) (rw (c.as_slice.ensures) at c.put.ensures.run);
    }

-- what was prepared is for these,
prepared : (g : Over) (c : goal.After-take_off-arg-3-1 g)
    → AreNeeds (state_of c.self-2.inside).description c.forget_erred-2.new.self.robot.value.places c.put.new.self.order
    (length (state_of c.self-2.inside).loaded) c.in_ok-taken.taken.needs
prepared g c =
    let a = c.self.inside in
    let b = c.self-2.inside in
    let after = decided g c in
    let placed : c.forget_erred-2.new.self.robot.value.places ≡ a.resources.robot.value.places =
    ap (λ (x : CycleResources). x.robot.value.places) c.forget_erred-2.ensures.resources
    ∙ c.self-2.invariant.worked_out.placed ∙ ap placed_of after.description ∙ sym c.self.invariant.worked_out.placed in
    let for_plan : AreNeeds a.checked a.resources.robot.value.places c.in_ok-plan.plan.order.items
    (length a.slots.loaded) c.in_ok-taken.taken.needs =
    rw (c.deref.ensures.value, c.len.ensures) at c.in_ok-taken.ensures.taken.1 in
    rw (after.description, placed, c.put.ensures.order, after.counted) for_plan

-- and all is ready
ready : (g : Over) (c : goal.After-take_off-arg-3-1 g) → IsMadeReady c.forget_erred-2.new.self c.take_in.new.self
ready g c = c.take_in.ensures.resources (state_of c.self-2.inside).description c.put.new.self.order
    (length (state_of c.self-2.inside).loaded) (prepared g c)

-- over resources that have an empty list the same is kept,
kept : (g : Over) (c : goal.After-take_off-arg-3-1 g)
    → IsKept (state_of c.self-2.inside) c.self-2.inside.names.items
    (base_of c.forget_erred-2.new.self (vec_capacity c.self-2.inside.boxes)) c.self-2.inside.active_set
kept g c =
    let b = c.self-2.inside in
    let after = decided g c in
    kept_forgotten (state_of b) b.names.items b.resources c.forget_erred-2.new.self (vec_capacity b.boxes)
    (vec_capacity b.boxes) b.active_set c.self-2.invariant after.down
    (record { fitted = c.self-2.invariant.based.fitted; ordered = c.self-2.invariant.based.ordered after.down })
    c.forget_erred-2.ensures

flies : (g : Over) (c : goal.After-take_off-arg-3-1 g)
    → CanTakeOff (state_of c.self-2.inside) c.self-2.inside.slots c.run.result.now c.take_in.new.self
    (map g.C.Controller.meaning c.replace-boxes.result.items) (vec_capacity c.replace-boxes.result)
    c.replace-cells.result.items (vec_capacity c.replace-cells.result) c.self-2.inside.ended
flies g c =
    let s = state_of c.self.inside in
    let b = c.self-2.inside in
    let t = state_of b in
    let many = ap length c.put.ensures.order in
    rw (c.run.ensures)
    (can_take_off s t b.names.items c.forget_erred-2.new.self c.take_in.new.self (vec_capacity b.boxes) b.active_set
    c.put.new.self b.slots (map g.C.Controller.meaning c.replace-boxes.result.items)
    (vec_capacity c.replace-boxes.result)
    c.replace-cells.result.items (vec_capacity c.replace-cells.result) b.ended (kept g c) (decided g c) (listed g c)
    c.put.ensures.current (ready g c) refl refl refl
    (c.take_in.ensures.prepared t.description c.put.new.self.order (length t.loaded) (prepared g c))
    (rw (c.replace-boxes.ensures.value) (ap (map g.C.Controller.meaning) c.in_ok-taken.ensures.places.2))
    (omega (
      arith,
      c.in_ok-taken.ensures.places.3,
      many,
      ap length c.deref.ensures.value,
      ap vec_capacity c.replace-boxes.ensures.value,
    ))
    (rw (c.replace-cells.ensures.value) c.in_ok-taken.ensures.places.0)
    (omega (
      arith,
      c.in_ok-taken.ensures.places.1,
      many,
      ap length c.deref.ensures.value,
      ap vec_capacity c.replace-cells.ensures.value,
    )))

pub take_off-flight-requires : goal.take_off-flight-requires
take_off-flight-requires g c = (state_of c.self-2.inside, flies g c)

-- where it took off the state is that of the cycle which began
begun_there : (g : Over) (c : goal.After-take_off-flight g)
    → HasTakenOff (state_of c.self-2.inside) c.self-2.inside.slots c.take_off-flight.new.slots c.take_in.new.self
    c.take_off-flight.new.resources c.take_off-flight.result
    → state_with c.self-2.inside.checked c.self-2.inside.blanks c.self-2.inside.sessions c.self-2.inside.loads
    c.take_off-flight.new.slots c.self-2.inside.requests
    (base_of c.take_off-flight.new.resources (vec_capacity c.take_off-flight.new.boxes)) c.self-2.inside.ended
    c.self-2.inside.closed ≡ begun (state_of c.self-2.inside)
begun_there g c off =
    let b = c.self-2.inside in
    view_flown b.checked b.blanks b.sessions b.loads b.slots c.take_off-flight.new.slots b.requests (base_in b)
    (base_of c.take_off-flight.new.resources (vec_capacity c.take_off-flight.new.boxes))
    b.ended b.closed off.slots off.mails
    (ap (λ (x : CycleResources). x.robot.value) off.resources
    ∙ ap (λ (x : CycleResources). x.robot.value) (ready g c.before).resources
    ∙ ap (λ (x : CycleResources). x.robot.value) c.forget_erred-2.ensures.resources)
    (ap (stand_ins_for b.checked)
    (ap (λ (x : CycleResources). x.erred.value.items) off.resources
    ∙ ap (λ (x : CycleResources). x.erred.value.items) (ready g c.before).resources
    ∙ c.forget_erred-2.ensures.none_erred)
    ∙ sym (nobody g c.before))

pub invariant_of-self-3 : goal.invariant_of-self-3
invariant_of-self-3 g c =
    let s = state_of c.self.inside in
    let b = c.self-2.inside in
    let t = state_of b in
    let d = c.take_off-flight.new.resources in
    let room = vec_capacity c.take_off-flight.new.boxes in
    let off = c.take_off-flight.ensures.off t (flies g c.before) in
    let many = ap length c.put.ensures.order in
    let fits : length c.put.new.self.order ≤ vec_capacity c.replace-boxes.result =
    omega (
      arith,
      c.in_ok-taken.ensures.places.3,
      many,
      ap length c.deref.ensures.value,
      ap vec_capacity c.replace-boxes.ensures.value,
      c.in_ok-plan.plan.order.ok.0,
    ) in
    let same : room ≡ vec_capacity c.replace-boxes.result = c.take_off-flight.ensures.room in
    subst (λ (u : State). IsKept u b.names.items (base_of d room) c.put.new.self) (sym (begun_there g c off))
    (kept_off s t b.names.items c.forget_erred-2.new.self c.take_in.new.self d (vec_capacity b.boxes) room b.active_set
    c.put.new.self b.slots c.take_off-flight.new.slots c.take_off-flight.result
    (kept g c.before) (decided g c.before) (listed g c.before) c.put.ensures.current (ready g c.before) off
    (omega (arith, fits, same)))

-- it began in the state after all that was decided
pub returns-clause-begun : goal.returns-clause-begun
returns-clause-begun g c =
    let off = c.take_off-flight.ensures.off (state_of c.self-2.inside) (flies g c.before) in
    let flown = begun_there g c off in
    rw (← c.self.view_is) (record {
      begun = flown ∙ ap begun (decided_there g c.before);
      told = ap reply.Decisions (planned g c.before).decisions;
      aloft = rw flown off.flight;
    })
