use Rattle.std.proofs.Common.{◌≡◌, ℕ, false, List, map, Option, refl, sym, ap, ap₂, subst, ◌∙◌}
use Rattle.std.specs.Prelude.{IfSome}
use Rattle.cm_storage.specs.declared.record_room.RecordRoom.{RecordRoom}
use Rattle.cm_hardware.specs.Wiring.{Wired}
use Rattle.cm_model.specs.declared.member.Member.{Member}
use Rattle.cm_slots.specs.Slots.{Slotted}
use Rattle.rt_flight.specs.Flights.{TellsNothing}
use Rattle.rt_flight.specs.declared.context.CycleContext.{CycleContext}
use Rattle.rt_flight.specs.declared.robot.Robot.{Robot}
use Rattle.cm_resources.specs.CycleResources.{place_among}
use Rattle.cm_desk.proofs.LandLemmas.{can_leave, can_park, can_settle, flags}
use Rattle.cm_desk.proofs.LandLemmas.{fitted, ordered, erred, lines, shows, not_so}
use Rattle.cm_desk.proofs.land.bring_home.Goals as goal

pub come_home-cells-requires : goal.come_home-cells-requires
come_home-cells-requires g c = rw (c.requires.1.lands.computed.outcome) refl

pub empty_cells-requires : goal.empty_cells-requires
empty_cells-requires g c = can_leave c.requires.0 _ _ _ _ _ c.requires.1 _ _ _ c.come_home-cells.ensures

pub park-requires : goal.park-requires
park-requires g c =
    rw (c.run.ensures)
    (can_park c.requires.0 _ _ _ _ _ c.requires.1 _ _ _ c.come_home-cells.ensures _ _ c.empty_cells.ensures.left)

pub settle-requires : goal.settle-requires
settle-requires g c = (
  c.requires.0,
  rw (c.deref_mut.ensures.value)
      (can_settle c.requires.0 _ _ _ _ _ c.requires.1 _ _ _ c.come_home-cells.ensures c.park.new.self _ _
      c.empty_cells.ensures.left
      (rw (c.run.ensures) at c.park.ensures.parked)),
)

-- nothing is told in room that is left
pub take_back-requires : goal.take_back-requires
take_back-requires g c =
    let leaves = c.settle.ensures.context.context in
    let same : c.settle.new.context.room ≡ c.come_home-cells.result.context.value.room =
    ap (λ (k : CycleContext). k.room) leaves ∙ ap (λ (k : CycleContext). k.room) c.deref_mut.ensures.value in
    subst (λ (o : Option RecordRoom). IfSome o TellsNothing) (sym same) c.come_home-cells.ensures.left

-- all is as after the cycle
pub returns-clause-home : goal.returns-clause-home
returns-clause-home g c = λ s is.
    let parked = rw (c.run.ensures) at c.park.ensures.parked in
    let came = c.come_home-cells.ensures in
    let can = can_settle s _ _ _ _ _ is _ _ _ came c.park.new.self _ _ c.empty_cells.ensures.left parked in
    let settled = c.settle.ensures.settled s (rw (c.deref_mut.ensures.value) can) in
    let robot : c.take_back.new.self.robot.value ≡ c.settle.new.context.robot = c.take_back.ensures.robot in
    let leaves = c.settle.ensures.context.context in
    let aboard : c.deref_mut.result.now.robot ≡ c.args.flight.robot =
    ap (λ (k : CycleContext). k.robot) c.deref_mut.ensures.value ∙ came.robot in
    let ending : c.take_back.new.self.ending.value ≡ c.come_home-cells.result.context.value.ending =
    c.take_back.ensures.ending ∙ ap (λ (k : CycleContext). k.ending) leaves
    ∙ ap (λ (k : CycleContext). k.ending) c.deref_mut.ensures.value in
    let lists : c.take_back.new.self.lists ≡ c.come_home-cells.result.context.value.lists =
    c.take_back.ensures.lists ∙ ap (λ (k : CycleContext). k.lists) leaves
    ∙ ap (λ (k : CycleContext). k.lists) c.deref_mut.ensures.value in
    record {
      settled = rw robot settled;
      slots = c.settle.ensures.rest.slots
          ∙ ap (λ (x : Slotted). record x { loaded = c.settle.new.slots.loaded }) parked.slots;
      robot = robot ∙ ap (λ (k : CycleContext). k.robot) leaves
          ∙ ap₂ (λ (h : Robot) (w : Wired). record h { hardware = w }) aboard
          (sym (ap (λ (h : Robot). h.hardware) robot));
      home = c.take_back.ensures.home;
      flags = rw ending (flags s _ _ _ _ _ is _ _ _ came);
      fitted = rw (
        ap (λ (h : Robot). h.places)
            (robot ∙ ap (λ (k : CycleContext). k.robot) leaves
            ∙ ap (λ (k : CycleContext). record k.robot { hardware = c.settle.new.context.robot.hardware })
            c.deref_mut.ensures.value),
        ap (λ x. x.items) c.take_back.ensures.workspaces,
      )
          (fitted s _ _ _ _ _ is _ _ _ came _ _ c.empty_cells.ensures.left);
      ordered = c.take_back.ensures.order ∙ ap (λ (k : CycleContext). k.order.items) leaves
          ∙ ap (λ (k : CycleContext). k.order.items) c.deref_mut.ensures.value
          ∙ rw (ap (λ x. x.items) c.take_back.ensures.workspaces)
          (ordered s _ _ _ _ _ is _ _ _ came _ _ c.empty_cells.ensures.left);
      erred = c.take_back.ensures.erred ∙ ap₂ (λ (ms : List Member) (serials : List ℕ). map (place_among ms) serials)
          (ap (λ (k : CycleContext). k.order.items) leaves
          ∙ ap (λ (k : CycleContext). k.order.items) c.deref_mut.ensures.value)
          (ap (λ (k : CycleContext). k.erred.items) leaves
          ∙ ap (λ (k : CycleContext). k.erred.items) c.deref_mut.ensures.value)
          ∙ erred s _ _ _ _ _ is _ _ _ came;
      no_mail = c.take_back.ensures.no_mail;
      lines = rw lists (lines s _ _ _ _ _ is _ _ _ came);
      told = λ yes.
          let quiet : c.deref_mut.result.now.has_failed ≡ false =
          sym (ap (λ (k : CycleContext). k.has_failed) leaves)
          ∙ not_so c.settle.new.context.has_failed (sym c.take_back.ensures.told ∙ yes) in
          let same : c.settle.new.context ≡ c.come_home-cells.result.context.value =
          c.settle.ensures.context.quiet quiet ∙ c.deref_mut.ensures.value in
          rw (robot ∙ ap (λ (k : CycleContext). k.robot) same, lists) (shows s _ _ _ _ _ is _ _ _ came);
      next_lines = rw (c.take_back.ensures.next_lists) is.lines;
      size = c.take_back.ensures.size;
      room = c.take_back.ensures.room ∙ c.settle.ensures.rest.width;
    }

pub returns-clause-told : goal.returns-clause-told
returns-clause-told g c = c.come_home-cells.ensures.told

pub returns-clause-room : goal.returns-clause-room
returns-clause-room g c = c.park.ensures.capacity ∙ c.empty_cells.ensures.room.1
