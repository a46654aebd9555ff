use Rattle.std.proofs.Common.{◌≡◌, ◌<◌, false, refl, sym, ◌∙◌, arith}
use Rattle.std.specs.Prelude.{length}
use Rattle.std.specs.List.{remove}
use Rattle.cm_model.specs.State.{is_active}
use Rattle.cm_desk.proofs.KeptLemmas.{kept_after_unload, order_still_loaded, as_many_at, length_remove}
use Rattle.cm_desk.proofs.WorksLemmas.{stands_here, unloaded_there, handed_there}
use Rattle.cm_desk.proofs.Insides.{base_in, state_of}
use Rattle.cm_desk.proofs.works.Works.unload.Goals as goal

pub unload-ctl-requires : goal.unload-ctl-requires
unload-ctl-requires g c =
    let a = c.self.inside in
    let l = c.index-as_slice-index.result in
    let within : c.in-Some.index < length a.slots.loaded = rw (← c.self.view_is) at c.in-Some.ensures.within in
    let here = stands_here a.checked a.slots.loaded c.in-Some.index l c.self.invariant.described within
    (rw (c.as_slice.ensures) at c.index-as_slice-index.is) in
    let idle : is_active l ≡ false = sym c.is_active.ensures.active ∙ c.if-is_active.false in
    rw (here.0) idle

-- what was found not active is what moves out, so each in the order of updates is still loaded
pub reindex-requires-clause-loaded : goal.reindex-requires-clause-loaded
reindex-requires-clause-loaded g c = λ current.
    let a = c.self.inside in
    let s = state_of a in
    let l = c.index-as_slice-index.result in
    let within : c.in-Some.index < length a.slots.loaded = rw (← c.self.view_is) at c.in-Some.ensures.within in
    let here = stands_here a.checked a.slots.loaded c.in-Some.index l c.self.invariant.described within
    (rw (c.as_slice.ensures) at c.index-as_slice-index.is) in
    let idle : is_active l ≡ false = sym c.is_active.ensures.active ∙ c.if-is_active.false in
    rw (c.as_slice-2.ensures, c.unload-ctl.ensures.unloaded)
    (order_still_loaded s c.in-Some.index l a.active_set.order here.0 idle (c.self.invariant.listed.order current))

pub reindex-requires-clause-room : goal.reindex-requires-clause-room
reindex-requires-clause-room g c = λ current. as_many_at _ _ _ (c.self.invariant.listed.run current)

pub reindex-requires-clause-few : goal.reindex-requires-clause-few
reindex-requires-clause-few g c =
    let a = c.self.inside in
    rw (c.as_slice-2.ensures, c.unload-ctl.ensures.unloaded)
    (omega (arith, c.self.invariant.few, c.self.invariant.counted, length_remove a.slots.loaded c.in-Some.index))

-- the others stay, and it was looked up anew where they stand
pub invariant_of-self : goal.invariant_of-self
invariant_of-self g c =
    let a = c.self.inside in
    let s = state_of a in
    let l = c.index-as_slice-index.result in
    let within : c.in-Some.index < length a.slots.loaded = rw (← c.self.view_is) at c.in-Some.ensures.within in
    let here = stands_here a.checked a.slots.loaded c.in-Some.index l c.self.invariant.described within
    (rw (c.as_slice.ensures) at c.index-as_slice-index.is) in
    let idle : is_active l ≡ false = sym c.is_active.ensures.active ∙ c.if-is_active.false in
    rw (c.unload-ctl.ensures.unloaded)
    (kept_after_unload s a.names.items (base_in a) a.active_set c.reindex.new.self c.in-Some.index l c.self.invariant
    here.0 idle
    c.reindex.ensures.active c.reindex.ensures.order c.reindex.ensures.current
    (rw (c.as_slice-2.ensures, c.unload-ctl.ensures.unloaded) at c.reindex.ensures.run))

pub returns-clause-made : goal.returns-clause-made
returns-clause-made g c =
    let a = c.self.inside in
    let s = state_of a in
    let l = c.index-as_slice-index.result in
    let within : c.in-Some.index < length a.slots.loaded = rw (← c.self.view_is) at c.in-Some.ensures.within in
    let here = stands_here a.checked a.slots.loaded c.in-Some.index l c.self.invariant.described within
    (rw (c.as_slice.ensures) at c.index-as_slice-index.is) in
    let idle : is_active l ≡ false = sym c.is_active.ensures.active ∙ c.if-is_active.false in
    rw (← c.self.view_is, c.unload-ctl.ensures.unloaded)
    (unloaded_there s (record s { loaded = remove a.slots.loaded c.in-Some.index }) c.args.name.now c.in-Some.index l
    (rw (← c.self.view_is) at c.in-Some.ensures.found) here.0 idle refl)

pub returns-clause-given : goal.returns-clause-given
returns-clause-given g c =
    let a = c.self.inside in
    let s = state_of a in
    let l = c.index-as_slice-index.result in
    let within : c.in-Some.index < length a.slots.loaded = rw (← c.self.view_is) at c.in-Some.ensures.within in
    let here = stands_here a.checked a.slots.loaded c.in-Some.index l c.self.invariant.described within
    (rw (c.as_slice.ensures) at c.index-as_slice-index.is) in
    rw (← c.self.view_is)
    (handed_there s c.args.name.now c.in-Some.index l (g.C.Controller.meaning c.unload-ctl.result)
    (rw (← c.self.view_is) at c.in-Some.ensures.found) here.0 (c.unload-ctl.ensures.given l here.0))
