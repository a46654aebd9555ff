use Rattle.std.proofs.Common.{◌≡◌, ℕ, ◌<◌, Option, Some, sym, ap, subst, length, refl}
use Rattle.std.specs.Prelude.{IsSomeAnd}
use Rattle.cm_model.specs.Order.{depth}
use Rattle.cm_model.specs.State.{active}
use Rattle.cm_storage.specs.declared.record_room.RecordRoom.{RecordRoom}
use Rattle.switch_plan.specs.Relations.{Related}
use Rattle.rt_flight.specs.Calls.Depths.{PutsDepths}
use Rattle.rt_flight.specs.Calls.Turns.{Begins}
use Rattle.rt_flight.specs.Depths.{places_in, RanksDepths}
use Rattle.rt_flight.specs.Flights.{round_over, IsReady}
use Rattle.rt_flight.specs.UnderWay.{HasBegunOf}
use Rattle.rt_flight.specs.declared.robot.Robot.{Robot}
use Rattle.rt_flight.proofs.BegunLemmas.{begun, begun_of}
use Rattle.rt_flight.proofs.RankLemmas.{depths_ranked}
use Rattle.rt_flight.proofs.TurnLemmas.{each_of}
use Rattle.rt_flight.proofs.compute.begin_turns.Goals as goal

pub read_components-requires : goal.read_components-requires
read_components-requires g c =
    let k = c.args.context.now in
    let ready = subst
    (λ (o : Option RecordRoom). IsSomeAnd o (IsReady c.args.number c.args.cells.now k.order.items k.robot)) c.in-Some.is
    c.requires.ready in
    ready.makes.failures

-- the relations are as before
pub set_depths-requires-clause-ranked : goal.set_depths-requires-clause-ranked
set_depths-requires-clause-ranked g c =
    let k = c.args.context.now in
    let ready = subst
    (λ (o : Option RecordRoom). IsSomeAnd o (IsReady c.args.number c.args.cells.now k.order.items k.robot)) c.in-Some.is
    c.requires.ready in
    let s = ready.makes.aloft.0 in (
      (λ (p : ℕ). depth s.description.controllers (active s) p),
      subst (λ (w : Related). RanksDepths w (λ (p : ℕ). depth s.description.controllers (active s) p)
          (places_in c.args.cells.now)) (sym (ap (λ (x : Robot). x.relations) c.read_components.ensures.robot))
          (depths_ranked s c.args.number c.args.cells.now k.robot ready.makes.aloft.1),
    )

pub set_depths-requires-clause-related : goal.set_depths-requires-clause-related
set_depths-requires-clause-related g c =
    let k = c.args.context.now in
    let ready = subst
    (λ (o : Option RecordRoom). IsSomeAnd o (IsReady c.args.number c.args.cells.now k.order.items k.robot)) c.in-Some.is
    c.requires.ready in
    let within : c.read_components.new.robot.relations ≡ k.robot.relations =
    ap (λ (x : Robot). x.relations) c.read_components.ensures.robot in
    each_of (round_over c.args.number k.robot) (length k.robot.hardware.loans)
    (λ d. d.workspace.place < length c.read_components.new.robot.relations.leaders)
    (λ d can. subst (λ (w : Related). d.workspace.place < length w.leaders) (sym within) can.steps.led) c.args.cells.now
    ready.makes.each

-- the turns began,
pub returns-clause-begins : goal.returns-clause-begins
returns-clause-begins g c =
    let k = c.args.context.now in
    let has = c.read_components.ensures in
    let told = c.read_components.new.room in
    let ready = subst
    (λ (o : Option RecordRoom). IsSomeAnd o (IsReady c.args.number c.args.cells.now k.order.items k.robot)) c.in-Some.is
    c.requires.ready in
    let puts = subst (λ (w : Related). PutsDepths w c.args.cells.now c.set_depths.new.cells c.set_depths.result)
    (ap (λ (x : Robot). x.relations) has.robot) c.set_depths.ensures in
    subst (λ (x : Robot). Begins c.args.number c.args.cells.now c.set_depths.new.cells k
    (record k { robot = x; room = Some told }) c.set_depths.result) (sym has.robot) (record {
      begun = begun c.args.number c.args.cells.now c.set_depths.new.cells k c.read_components.new.robot.hardware
          c.in-Some.room told ready puts.same puts.ranked
          (λ s is. has.read s is.hardware (sym is.number)) c.requires has.build has.left has.told;
      count = puts.count;
      deepened = puts.same;
      context = refl;
    })

-- of each state in which the cycle is aloft
pub returns-clause-under_way : goal.returns-clause-under_way
returns-clause-under_way g c = λ s is.
    let k = c.args.context.now in
    let has = c.read_components.ensures in
    let told = c.read_components.new.room in
    let ready = subst
    (λ (o : Option RecordRoom). IsSomeAnd o (IsReady c.args.number c.args.cells.now k.order.items k.robot)) c.in-Some.is
    c.requires.ready in
    let puts = subst (λ (w : Related). PutsDepths w c.args.cells.now c.set_depths.new.cells c.set_depths.result)
    (ap (λ (x : Robot). x.relations) has.robot) c.set_depths.ensures in
    subst (λ (x : Robot). HasBegunOf s c.args.number c.set_depths.new.cells (record k { robot = x; room = Some told }))
    (sym has.robot)
    (begun_of c.args.number c.args.cells.now c.set_depths.new.cells k c.read_components.new.robot.hardware
    c.in-Some.room told ready puts.same puts.ranked
    (λ t aloft. has.read t aloft.hardware (sym aloft.number)) s is)
