use Rattle.std.proofs.Common.{◌≡◌, Bool, length, map, sym, ap, ◌∙◌, arith}
use Rattle.std.proofs.lemmas.List.{with_items_is}
use Rattle.cm_slots.specs.Slots.{box_of}
use Rattle.cm_slots.proofs.CommitStateLemmas.{committed_all}
use Rattle.cm_slots.proofs.WaitLemmas.{told_committed}
use Rattle.cm_slots.proofs.slots.Slots.commit.Goals as goal

-- no box is away
pub commit_each-requires : goal.commit_each-requires
commit_each-requires g c =
    let a = c.self.inside in
    let can = rw (← c.self.view_is) at c.requires in
    rw (c.deref_mut.ensures.value, c.deref_mut-2.ensures.value) (record {
      home = c.self.invariant.0 ∙ ap (λ (b : Bool). map (box_of b) a.slots.items) can.home;
      connected = can.connected;
      has_room = can.has_room;
    })

-- and no mail is posted
pub invariant_of-self : goal.invariant_of-self
invariant_of-self g c =
    let a = c.self.inside in
    let can = rw (← c.self.view_is) at c.requires in
    let slots : length c.commit_each.new.slots ≡ a.slots.len = omega arith in
    let boxes : length c.commit_each.new.boxes ≡ a.boxes.len = omega arith in
    rw (with_items_is a.slots c.commit_each.new.slots slots, with_items_is a.boxes c.commit_each.new.boxes boxes) (
      c.commit_each.ensures.home ∙ ap (λ (b : Bool). map (box_of b) c.commit_each.new.slots) (sym can.home),
      rw (c.commit_each.ensures.committed, c.deref_mut.ensures.value)
          (told_committed a.mail_waits c.args.places.now c.args.hardware.now.loans c.args.chained.now c.args.stopped.now
          c.args.started.now a.slots.items c.self.invariant.1),
    )

-- by place it is the commit of the state
pub returns-clause-committed : goal.returns-clause-committed
returns-clause-committed g c = λ s set again valid placed shown loaded told.
    let a = c.self.inside in
    let slots : length c.commit_each.new.slots ≡ a.slots.len = omega arith in
    let same = rw (← c.self.view_is) at loaded in
    rw (
      with_items_is a.slots c.commit_each.new.slots slots,
      c.commit_each.ensures.committed,
      c.deref_mut.ensures.value,
      placed,
      same,
    )
    (committed_all s set again c.args.hardware.now.loans c.args.chained.now c.args.stopped.now c.args.started.now valid
    shown told)
