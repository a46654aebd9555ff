use Rattle.std.proofs.Common.{◌≡◌, ◌<◌, false, length, Some, option_map, refl, sym, subst, ◌∙◌, arith}
use Rattle.std.specs.Prelude.{slice_get}
use Rattle.std.proofs.lemmas.List.{map-set, length-set}
use Rattle.std.proofs.lemmas.Option.{slice_get_read}
use Rattle.cm_model.specs.State.{Loaded}
use Rattle.cm_slots.specs.Commits.{committed_at}
use Rattle.cm_slots.specs.Connections.{IsConnected, HasRoom}
use Rattle.cm_slots.proofs.EachLemmas.{changed_more, next_of, left_of}
use Rattle.cm_slots.proofs.SlotsLemmas.{boxes_set, own_box}
use Rattle.cm_slots.proofs.commits.commit_each.Goals as goal

-- the next has its box, its connections and room
pub commit_one-requires : goal.commit_one-requires
commit_one-requires g c =
    let i = c.loop-i.i in
    let slot = c.index-slots-i.result in
    let inv = c.loop-i.invariant in
    let within : i < length c.loop-i.slots = omega (arith, c.loop-i-test.true, inv.count) in
    let there : slice_get c.loop-i.slots i ≡ Some slot =
    slice_get_read c.loop-i.slots (length c.loop-i.slots) i slot refl within c.index-slots-i.is in
    rw (← c.index-slots-i.is, ← c.index-boxes-i.is) (record {
      home = own_box g.C.Controller.meaning false c.loop-i.boxes c.loop-i.slots i c.index-boxes-i.result slot inv.home
          there c.index-boxes-i.is;
      connected = next_of (IsConnected c.args.places.now (length c.args.hardware.now.loans)) c.loop-i.slots i slot there
          inv.connected;
      has_room = subst (λ room. HasRoom c.args.places.now room slot) (sym inv.room)
          (next_of (HasRoom c.args.places.now c.args.room.now) c.loop-i.slots i slot there inv.has_room);
    })

-- and is committed with it
pub loop-i-preserved : goal.loop-i-preserved
loop-i-preserved g c =
    let i = c.loop-i.i in
    let slot = c.index-slots-i.result in
    let inv = c.loop-i.invariant in
    let made = c.commit_one.ensures in
    let within : i < length c.loop-i.slots = omega (arith, c.loop-i-test.true, inv.count) in
    let there : slice_get c.loop-i.slots i ≡ Some slot =
    slice_get_read c.loop-i.slots (length c.loop-i.slots) i slot refl within c.index-slots-i.is in
    record {
      slots = changed_more
          (committed_at c.args.places.now c.args.hardware.now.loans c.args.chained.now c.args.stopped.now
          c.args.started.now)
          c.loop-i.slots i slot c.commit_one.new.slot there (subst (λ (l : Loaded). c.commit_one.new.slot
          ≡ committed_at c.args.places.now c.args.hardware.now.loans c.args.chained.now c.args.stopped.now
          c.args.started.now l) (sym c.index-slots-i.is) made.committed) ∙ inv.slots;
      home = map-set (option_map g.C.Controller.meaning) c.loop-i.boxes i c.commit_one.new.box_slot
          ∙ boxes_set false _ c.loop-i.slots i c.commit_one.new.slot
          (option_map g.C.Controller.meaning c.commit_one.new.box_slot) inv.home made.home;
      connected = left_of (IsConnected c.args.places.now (length c.args.hardware.now.loans)) c.loop-i.slots i
          c.commit_one.new.slot inv.connected;
      has_room = left_of (HasRoom c.args.places.now c.args.room.now) c.loop-i.slots i c.commit_one.new.slot
          inv.has_room;
      count = length-set c.loop-i.slots i c.commit_one.new.slot ∙ inv.count;
      places = length-set c.loop-i.boxes i c.commit_one.new.box_slot ∙ inv.places;
      room = made.room ∙ inv.room;
    }
