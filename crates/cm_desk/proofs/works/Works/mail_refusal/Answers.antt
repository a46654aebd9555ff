use Rattle.std.proofs.Common.{◌≡◌, ◌<◌, Bool, true, false, sym, ap, subst, ◌∙◌}
use Rattle.std.specs.Prelude.{length, slice_get, MatchOption}
use Rattle.cm_model.specs.Console.{send_refusals, reply_on}
use Rattle.cm_model.specs.State.{is_active, is_chained}
use Rattle.cm_model.specs.Steady.{IsSteady}
use Rattle.cm_model.specs.declared.reply.Reply.{Reply}
use Rattle.cm_model.specs.declared.reply.Reply.TheVariants as reply
use Rattle.cm_desk.specs.Works.{active_reply}
use Rattle.cm_desk.proofs.SendLemmas.{refusal_is, refused_idle}
use Rattle.cm_desk.proofs.WorksLemmas.{stands_here}
use Rattle.cm_desk.proofs.Insides.{state_of}
use Rattle.cm_desk.proofs.works.Works.mail_refusal.Goals as goal

-- one that is not active is refused as such
pub returns-then-not-is_active : goal.returns-then-not-is_active
returns-then-not-is_active g c =
    let a = c.self.inside in
    let s = state_of a in
    let l = c.index-as_slice-index.result in
    let within : c.args.index < length a.slots.loaded = rw (← c.self.view_is) at c.requires.within in
    let here = stands_here a.checked a.slots.loaded c.args.index l c.self.invariant.described within
    (rw (c.as_slice.ensures) at c.index-as_slice-index.is) in
    let idle : is_active l ≡ false = sym c.is_active.ensures.active ∙ c.if-not-is_active.true in
    rw (← c.self.view_is) (refused_idle s c.args.index l c.args.mail.now here.0 idle)

-- its description is the one at its place
pub is_chained-requires : goal.is_chained-requires
is_chained-requires g c = rw (← c.self.view_is) c.described-controller.ensures.same

-- of one that is active, what its description refuses is left
pub returns : goal.returns
returns g c =
    let a = c.self.inside in
    let s = state_of a in
    let l = c.index-as_slice-index.result in
    let d = c.described-controller.result.now in
    let within : c.args.index < length a.slots.loaded = rw (← c.self.view_is) at c.requires.within in
    let here = stands_here a.checked a.slots.loaded c.args.index l c.self.invariant.described within
    (rw (c.as_slice.ensures) at c.index-as_slice-index.is) in
    let runs : is_active l ≡ true = sym c.is_active.ensures.active ∙ c.if-not-is_active.false in
    let steady : IsSteady s = rw (← c.self.view_is) at c.requires.steady in
    let chained : c.is_chained.result ≡ is_chained s d = rw (← c.self.view_is) at c.is_chained.ensures in
    let told : reply_on (send_refusals s c.args.mail.now) (slice_get s.loaded c.args.index)
    ≡ active_reply c.is_chained.result d.params c.args.mail.now =
    refusal_is s c.args.index l d c.args.mail.now steady here.0 c.described-controller.ensures.same runs
    ∙ ap (λ (b : Bool). active_reply b d.params c.args.mail.now) (sym chained) in
    rw (← c.self.view_is)
    (subst (λ (r : Reply). MatchOption c.refusal_of_active.result (r ≡ reply.Done) (λ why. r ≡ reply.Not why))
    (sym told) c.refusal_of_active.ensures)
