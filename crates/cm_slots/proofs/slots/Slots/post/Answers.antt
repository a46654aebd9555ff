use Rattle.std.proofs.Common.{◌≡◌, ◌<◌, Some, length, refl, sym, ap, ◌∙◌}
use Rattle.std.specs.Prelude.{slice_get, slice_set}
use Rattle.std.proofs.lemmas.Option.{same_Some, slice_get_read}
use Rattle.cm_model.specs.Console.{after_send}
use Rattle.cm_slots.proofs.SlotsLemmas.{boxes_same, shown}
use Rattle.cm_slots.proofs.WaitLemmas.{told_of_some}
use Rattle.cm_slots.proofs.slots.Slots.post.Goals as goal

-- its box stays as it is, and it is told that mail waits
pub invariant_of-self : goal.invariant_of-self
invariant_of-self g c =
    let a = c.self.inside in
    let l = c.index_mut.result.now in
    let within : c.args.index < length a.slots.items = rw (← c.self.view_is) at c.requires in
    let stands : slice_get a.slots.items c.args.index ≡ Some l =
    slice_get_read a.slots.items (length a.slots.items) c.args.index l refl within c.index_mut.ensures.value in (
      c.self.invariant.0
          ∙ sym (boxes_same a.aloft a.slots.items c.args.index l c.post.new.self stands (rw c.post.ensures refl)),
      told_of_some (slice_set a.slots.items c.args.index c.post.new.self),
    )

pub returns : goal.returns
returns g c = λ m found.
    let a = c.self.inside in
    let l = c.index_mut.result.now in
    let within : c.args.index < length a.slots.items = rw (← c.self.view_is) at c.requires in
    let stands : slice_get a.slots.items c.args.index ≡ Some l =
    slice_get_read a.slots.items (length a.slots.items) c.args.index l refl within c.index_mut.ensures.value in
    let same : l ≡ m = same_Some l m (sym stands ∙ (rw (← c.self.view_is) at found)) in
    rw (← c.self.view_is)
    (ap (shown a.aloft _ a.slots.items c.args.index) (c.post.ensures ∙ ap (after_send c.args.mail) same))
