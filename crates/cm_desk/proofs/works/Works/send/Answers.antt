use Rattle.std.proofs.Common.{◌≡◌, ◌<◌, Some, refl, subst}
use Rattle.std.specs.Prelude.{length, slice_get, slice_set}
use Rattle.cm_model.specs.Console.{send_refusals, after_send, reply_on}
use Rattle.cm_model.specs.declared.reply.Reply.TheVariants as reply
use Rattle.cm_resources.specs.Described.{IsAsDescribed}
use Rattle.cm_desk.proofs.ChangeLemmas.{fit_sent}
use Rattle.cm_desk.proofs.KeptLemmas.{kept_after_change}
use Rattle.cm_desk.proofs.SendLemmas.{allowed_fits}
use Rattle.cm_desk.proofs.WorksLemmas.{stands_at, divided_here, changed_there}
use Rattle.cm_resources.proofs.DescribedLemmas.{described_there}
use Rattle.cm_desk.proofs.Insides.{base_in, state_of}
use Rattle.cm_desk.proofs.works.Works.send.Goals as goal

-- its kind stays, it stays active, and it can take the mail
pub invariant_of-self : goal.invariant_of-self
invariant_of-self g c =
    let a = c.self.inside in
    let s = state_of a in
    let within : c.in-Some.index < length a.slots.loaded = rw (← c.self.view_is) at c.in-Some.ensures.within in
    let at = stands_at a.checked a.slots.loaded c.in-Some.index c.self.invariant.described within in
    let l = at.0 in
    let here : (slice_get a.slots.loaded c.in-Some.index ≡ Some l) × IsAsDescribed a.checked l = at.1 in
    let there = described_there a.checked l here.1 in
    let allowed : reply_on (send_refusals s c.args.mail) (slice_get a.slots.loaded c.in-Some.index) ≡ reply.Done =
    rw (← c.self.view_is) at c.in_default-mail_refusal.ensures in
    let fits = allowed_fits s c.in-Some.index l there.0 c.args.mail (rw (← c.self.view_is) at c.requires) here.0 there.1
    (subst (λ o. reply_on (send_refusals s c.args.mail) o ≡ reply.Done) here.0 allowed) in
    rw (c.post.ensures l here.0)
    (kept_after_change s a.names.items (base_in a) a.active_set c.in-Some.index l (after_send c.args.mail l)
    c.self.invariant here.0 here.1
    (divided_here a.slots.loaded c.in-Some.index l c.self.invariant.divided here.0)
    (record { serial = refl; place = refl; active = refl })
    (fit_sent s c.in-Some.index l here.0 c.self.invariant.fit c.args.mail fits.0 fits.1))

pub returns : goal.returns
returns g c =
    let a = c.self.inside in
    let s = state_of a in
    let within : c.in-Some.index < length a.slots.loaded = rw (← c.self.view_is) at c.in-Some.ensures.within in
    let at = stands_at a.checked a.slots.loaded c.in-Some.index c.self.invariant.described within in
    let l = at.0 in
    let here : (slice_get a.slots.loaded c.in-Some.index ≡ Some l) × IsAsDescribed a.checked l = at.1 in
    let allowed : reply_on (send_refusals s c.args.mail) (slice_get a.slots.loaded c.in-Some.index) ≡ reply.Done =
    rw (← c.self.view_is) at c.in_default-mail_refusal.ensures in
    rw (← c.self.view_is, c.post.ensures l here.0)
    (changed_there s (record s { loaded = slice_set a.slots.loaded c.in-Some.index (after_send c.args.mail l) })
    c.args.name.now c.in-Some.index l (after_send c.args.mail l)
    (send_refusals s c.args.mail) (after_send c.args.mail) (rw (← c.self.view_is) at c.in-Some.ensures.found) here.0
    (subst (λ o. reply_on (send_refusals s c.args.mail) o ≡ reply.Done) here.0 allowed) refl refl)
