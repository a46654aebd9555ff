-- What works in a cycle is made ready for one, and is at home again.
use Rattle.std.proofs.Common.{◌≡◌, ℕ, List, [], Option, Some, None, refl, sym, ap, ap₂, subst, ◌∙◌, false}
use Rattle.std.specs.Prelude.{Box, IsSomeAnd, IfSome}
use Rattle.std.specs.declared.alloc.Global.{Global}
use Rattle.cm_document.specs.declared.description.Description.{Description}
use Rattle.cm_model.specs.declared.member.Member.{Member}
use Rattle.cm_places.specs.Placed.{Placed}
use Rattle.rt_flight.specs.declared.context.CycleContext.{CycleContext}
use Rattle.rt_flight.specs.declared.robot.Robot.{Robot}
use Rattle.cm_resources.specs.CycleResources.{IsAtHome, IsHome, IsMadeReady, IsRewired}
use Rattle.cm_resources.specs.CycleNeeds.{AreKept, AreNeeds, IsRefitted}
use Rattle.cm_resources.specs.declared.resources.CycleResources.{CycleResources}
use Rattle.cm_resources.specs.declared.resources.CycleBuffers.{CycleBuffers}
use Rattle.cm_resources.specs.declared.needs.CycleNeeds.{CycleNeeds}
use Rattle.cm_resources.proofs.NeedsLemmas.{kept_for, tells_nothing}
use Rattle.cm_storage.specs.declared.record_room.RecordRoom.{RecordRoom}
use Rattle.cm_hardware.specs.Wiring.{Wired}
use Rattle.rt_flight.specs.Flights.{TellsNothing}

module _ (b left b' : CycleResources) (k r : Box CycleContext Global) (h : CycleContext) (buffers : CycleBuffers)
    (home : IsHome b.robot.value b.ending.value b.members.value.items b.erred.value.items b.next_lists.value k)
    (away : left ≡ record b { idle_context = None }) (taken : h ≡ k.value)
    (back : b' ≡ record left { idle_context = Some r; members = b'.members; buffers = buffers })
    (members : b'.members.value ≡ r.value.order) (refit : IsRefitted h r.value) where
  idle_context : b'.idle_context ≡ Some r
  idle_context = ap (λ (x : CycleResources). x.idle_context) back

  buffers_are : b'.buffers ≡ buffers
  buffers_are = ap (λ (x : CycleResources). x.buffers) back

  robot : b'.robot.value ≡ b.robot.value
  robot = ap (λ (x : CycleResources). x.robot.value) back ∙ ap (λ (x : CycleResources). x.robot.value) away

  aboard : h.robot ≡ b.robot.value
  aboard = ap (λ (x : CycleContext). x.robot) taken ∙ home.robot

  -- it is at home again, and all else stays
  pub made_ready : AreKept h.robot.places buffers.workspaces.items r.value.order.items → IsMadeReady b b'
  made_ready kept =
      let ending : b'.ending.value ≡ b.ending.value =
      ap (λ (x : CycleResources). x.ending.value) back ∙ ap (λ (x : CycleResources). x.ending.value) away in
      let erred : b'.erred.value.items ≡ b.erred.value.items =
      ap (λ (x : CycleResources). x.erred.value.items) back ∙ ap (λ (x : CycleResources). x.erred.value.items) away in
      let lists : b'.next_lists.value ≡ b.next_lists.value =
      ap (λ (x : CycleResources). x.next_lists.value) back ∙ ap (λ (x : CycleResources). x.next_lists.value) away in
      record {
        kept = subst (λ (ms : List Member). AreKept b.robot.value.places b'.buffers.workspaces.items ms)
            (sym (ap (λ x. x.items) members))
            (subst (λ (s : CycleBuffers). AreKept b.robot.value.places s.workspaces.items r.value.order.items)
            (sym buffers_are)
            (subst (λ (g : Robot). AreKept g.places buffers.workspaces.items r.value.order.items) aboard kept));
        home = subst
            (λ (o : Option (Box CycleContext Global)). IsSomeAnd o
            (IsHome b'.robot.value b'.ending.value b'.members.value.items b'.erred.value.items b'.next_lists.value))
            (sym idle_context) (record {
              robot = ap (λ (x : CycleContext). x.robot) refit.context ∙ aboard ∙ sym robot;
              ending = ap (λ (x : CycleContext). x.ending) refit.context ∙ ap (λ (x : CycleContext). x.ending) taken
                  ∙ home.ending ∙ sym ending;
              order = sym (ap (λ x. x.items) members);
              erred = refit.erred ∙ ap (λ (x : CycleContext). x.erred.items) taken ∙ home.erred ∙ sym erred;
              next_lists =
                  ap (λ (x : CycleContext). x.lists) refit.context ∙ ap (λ (x : CycleContext). x.lists) taken
                  ∙ home.next_lists ∙ sym lists;
              told = refit.told;
            });
        resources = back
            ∙ ap (λ (x : CycleResources). record x { idle_context = Some r; members = b'.members; buffers = buffers })
            away
            ∙ ap₂ (λ (o : Option (Box CycleContext Global)) (s : CycleBuffers). record b
            { idle_context = o; members = b'.members; buffers = s }) (sym idle_context) (sym buffers_are);
      }

-- What is at home, with what was left over, is ready as it stands.
pub ready_already : (b : CycleResources) → IsAtHome b
    → AreKept b.robot.value.places b.buffers.workspaces.items b.members.value.items → IsMadeReady b b
ready_already b home kept = record { kept = kept; home = home; resources = refl }

-- new needs come to it, where no update failed,
pub refit_new : (d : Description) (placed : Placed) (order : List Member) (loaded : ℕ) (new : CycleNeeds)
    (k : CycleContext) → AreNeeds d placed order loaded new → k.erred.items ≡ []
    → IsRefitted k (record k { order = new.order; erred = new.erred; room = Some new.room })
refit_new d placed order loaded new k all none =
    record { context = refl; erred = all.none_erred ∙ sym none; told = tells_nothing d placed order new.room all.told }

-- and are kept
pub kept_new : (d : Description) (placed : Placed) (order : List Member) (loaded : ℕ) (new : CycleNeeds)
    → AreNeeds d placed order loaded new → AreKept placed new.workspaces.items new.order.items
kept_new d placed order loaded new all =
    kept_for placed order new.workspaces.items new.order.items all.workspaces all.order

-- where what works in a cycle comes to rest again, with other hardware
pub at_rest : (b left b' : CycleResources) (k r : Box CycleContext Global) (h : CycleContext)
    → IsHome b.robot.value b.ending.value b.members.value.items b.erred.value.items b.next_lists.value k
    → left ≡ record b { idle_context = None; room = left.room } → left.room ≡ b.room
    → h ≡ k.value → r.value ≡ record h { robot = record h.robot { hardware = r.value.robot.hardware } }
    → b' ≡ record left { idle_context = Some r; robot = b'.robot; told = false } → b'.robot.value ≡ r.value.robot
    → IsRewired b b'
at_rest b left b' k r h home away room taken same rests robot =
    let aboard : h.robot ≡ b.robot.value = ap (λ (x : CycleContext). x.robot) taken ∙ home.robot in
    let now : r.value.robot ≡ record b.robot.value { hardware = r.value.robot.hardware } =
    ap (λ (x : CycleContext). x.robot) same
    ∙ ap (λ (g : Robot). record g { hardware = r.value.robot.hardware }) aboard in
    let ending : b'.ending.value ≡ b.ending.value =
    ap (λ (x : CycleResources). x.ending.value) rests ∙ ap (λ (x : CycleResources). x.ending.value) away in
    let sets : r.value.ending ≡ b.ending.value =
    ap (λ (x : CycleContext). x.ending) same ∙ ap (λ (x : CycleContext). x.ending) taken ∙ home.ending in
    let idle_context : b'.idle_context ≡ Some r = ap (λ (x : CycleResources). x.idle_context) rests in
    let members : b'.members.value.items ≡ b.members.value.items =
    ap (λ (x : CycleResources). x.members.value.items) rests
    ∙ ap (λ (x : CycleResources). x.members.value.items) away in
    let erred : b'.erred.value.items ≡ b.erred.value.items =
    ap (λ (x : CycleResources). x.erred.value.items) rests ∙ ap (λ (x : CycleResources). x.erred.value.items) away in
    let next_lists : b'.next_lists.value ≡ b.next_lists.value =
    ap (λ (x : CycleResources). x.next_lists.value) rests ∙ ap (λ (x : CycleResources). x.next_lists.value) away in
    let room_is : r.value.room ≡ k.value.room =
    ap (λ (x : CycleContext). x.room) same ∙ ap (λ (x : CycleContext). x.room) taken in
    record {
      robot = robot ∙ now
          ∙ ap (λ (w : Wired). record b.robot.value { hardware = w }) (sym (ap (λ (g : Robot). g.hardware) robot));
      ending = ending;
      home = subst
          (λ (o : Option (Box CycleContext Global)). IsSomeAnd o
          (IsHome b'.robot.value b'.ending.value b'.members.value.items b'.erred.value.items b'.next_lists.value))
          (sym idle_context) (record {
            robot = sym robot;
            ending = sets ∙ sym ending;
            order = ap (λ (x : CycleContext). x.order.items) same ∙ ap (λ (x : CycleContext). x.order.items) taken
                ∙ home.order ∙ sym members;
            erred = ap (λ (x : CycleContext). x.erred.items) same ∙ ap (λ (x : CycleContext). x.erred.items) taken
                ∙ home.erred ∙ sym erred;
            next_lists =
                ap (λ (x : CycleContext). x.lists) same ∙ ap (λ (x : CycleContext). x.lists) taken ∙ home.next_lists
                ∙ sym next_lists;
            told = subst (λ (o : Option RecordRoom). IfSome o TellsNothing) (sym room_is) home.told;
          });
      mails = ap (λ (x : CycleResources). x.mails.value.items) rests
          ∙ ap (λ (x : CycleResources). x.mails.value.items) away;
      buffers = ap (λ (x : CycleResources). x.buffers) rests ∙ ap (λ (x : CycleResources). x.buffers) away;
      members = members;
      erred = erred;
      lists = ap (λ (x : CycleResources). x.lists) rests ∙ ap (λ (x : CycleResources). x.lists) away;
      untold = ap (λ (x : CycleResources). x.told) rests;
      next_lists = next_lists;
      size = ap (λ (x : CycleResources). x.size) rests ∙ ap (λ (x : CycleResources). x.size) away;
      room = ap (λ (x : CycleResources). x.room) rests ∙ room;
    }
