use Rattle.std.proofs.Common.{◌≡◌, ◌<◌, ap, sym, ◌∙◌, arith}
use Rattle.std.specs.Prelude.{length}
use Rattle.std.proofs.lemmas.Option.{slice_get_within, same_Some}
use Rattle.cm_document.proofs.ValidParts.{few_controllers}
use Rattle.cm_model.specs.Commit.{seen}
use Rattle.cm_model.specs.State.{State}
use Rattle.cm_desk.proofs.ActingLemmas.{seen_as}
use Rattle.cm_resources.proofs.DescribedLemmas.{described_there}
use Rattle.cm_desk.proofs.WorksLemmas.{stands_here}
use Rattle.cm_desk.proofs.Insides.{state_of}
use Rattle.cm_desk.proofs.works.Works.seen.Goals as goal

-- it has its place in the description
pub described_at-controller-requires : goal.described_at-controller-requires
described_at-controller-requires g c =
    let a = c.self.inside in
    let l = c.index-as_slice-index.result in
    let within : c.args.index < length a.slots.loaded = rw (← c.self.view_is) at c.requires.within in
    let here = stands_here a.checked a.slots.loaded c.args.index l c.self.invariant.described within
    (rw (c.as_slice.ensures) at c.index-as_slice-index.is) in
    let there = described_there a.checked l here.1 in
    rw (c.place.ensures) (slice_get_within a.checked.controllers l.place there.0 there.1)

pub overflow_cast-result : goal.overflow_cast-result
overflow_cast-result g c =
    let a = c.self.inside in
    let l = c.index-as_slice-index.result in
    let within : c.args.index < length a.slots.loaded = rw (← c.self.view_is) at c.requires.within in
    let here = stands_here a.checked a.slots.loaded c.args.index l c.self.invariant.described within
    (rw (c.as_slice.ensures) at c.index-as_slice-index.is) in
    let there = described_there a.checked l here.1 in
    omega (
      arith,
      c.place.ensures,
      slice_get_within a.checked.controllers l.place there.0 there.1,
      few_controllers a.checked c.described_at-controller.ensures.valid,
    )

-- and its description is the one there
pub runs_chained-requires : goal.runs_chained-requires
runs_chained-requires g c = rw (← c.self.view_is) (rw (c.place.ensures) at c.described_at-controller.ensures.same)

pub returns : goal.returns
returns g c = λ l at.
    let a = c.self.inside in
    let s = state_of a in
    let m = c.index-as_slice-index.result in
    let within : c.args.index < length a.slots.loaded = rw (← c.self.view_is) at c.requires.within in
    let here = stands_here a.checked a.slots.loaded c.args.index m c.self.invariant.described within
    (rw (c.as_slice.ensures) at c.index-as_slice-index.is) in
    let same : m ≡ l = same_Some m l (sym here.0 ∙ (rw (← c.self.view_is) at at)) in
    let there = rw (c.place.ensures) at c.described_at-controller.ensures.same in
    seen_as s m c.described_at-controller.result.now _ _ _ _ _ there c.serial.ensures c.place-2.ensures c.life.ensures
    (rw (← c.self.view_is) at c.runs_chained.ensures) (c.is_ready.ensures m here.0)
    ∙ ap (seen s) same ∙ ap (λ (t : State). seen t l) c.self.view_is
