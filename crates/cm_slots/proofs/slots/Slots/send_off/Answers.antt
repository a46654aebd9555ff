use Rattle.std.proofs.Common.{◌≡◌, Bool, false, List, ◌++◌, length, map, sym, subst, ap, ◌∙◌, arith}
use Rattle.std.specs.List.{AllByRecursion, list_any}
use Rattle.std.proofs.lemmas.List.{append-nil, with_items_is}
use Rattle.cm_model.specs.State.{Loaded, MailAloft}
use Rattle.cm_slots.specs.Mails.{has_mail, without_sent, with_all_sent, WaitsAsTold}
use Rattle.cm_slots.proofs.MailLemmas.{all_sent}
use Rattle.cm_slots.proofs.SlotsLemmas.{boxes_sent, showing}
use Rattle.cm_slots.proofs.WaitLemmas.{told_looked, none_goes, none_off}
use Rattle.cm_slots.proofs.slots.Slots.send_off.Goals as goal

-- each box is where it was, and it is told of the mail that is left
pub invariant_of-self : goal.invariant_of-self
invariant_of-self g c =
    let a = c.self.inside in
    let slots : length c.send_each.new.slots ≡ a.slots.len = omega arith in
    let left : List Loaded = map (without_sent c.args.cycle) a.slots.items in
    let looked : c.some_mail_waits-self-inside.result ≡ list_any has_mail left =
    c.some_mail_waits-self-inside.ensures
    ∙ ap (list_any has_mail)
    (c.deref.ensures.value ∙ with_items_is a.slots c.send_each.new.slots slots ∙ c.send_each.ensures.slots
    ∙ ap (map (without_sent c.args.cycle)) c.deref_mut.ensures.value) in
    rw (with_items_is a.slots c.send_each.new.slots slots, c.send_each.ensures.slots, c.deref_mut.ensures.value) (
      c.self.invariant.0 ∙ sym (boxes_sent a.aloft c.args.cycle a.slots.items),
      subst (λ (waits : Bool). AllByRecursion (WaitsAsTold waits) left) (sym looked) (told_looked left),
    )

-- the number of the cycle is that of the state
pub returns-then-self-clause-mails : goal.returns-then-self-clause-mails
returns-then-self-clause-mails g c = λ s number.
    let a = c.self.inside in
    rw (← c.self.view_is)
    (rw (c.deref_mut.ensures.value) at c.send_each.ensures.mails
    ∙ ap (λ n. with_all_sent n a.slots.items c.args.mails.now.items) (sym number)
    ∙ all_sent s.ended a.slots.items c.args.mails.now.items)

-- where no mail waits, none goes off
pub returns-else-self-clause-slots : goal.returns-else-self-clause-slots
returns-else-self-clause-slots g c = λ s number.
    let a = c.self.inside in
    let none : AllByRecursion (WaitsAsTold false) a.slots.items =
    subst (λ (waits : Bool). AllByRecursion (WaitsAsTold waits) a.slots.items) c.if-self.false c.self.invariant.1 in
    rw (← c.self.view_is) (ap (showing a.aloft _) (sym (none_goes s a.slots.items none)))

pub returns-else-self-clause-mails : goal.returns-else-self-clause-mails
returns-else-self-clause-mails g c = λ s number.
    let a = c.self.inside in
    let none : AllByRecursion (WaitsAsTold false) a.slots.items =
    subst (λ (waits : Bool). AllByRecursion (WaitsAsTold waits) a.slots.items) c.if-self.false c.self.invariant.1 in
    rw (← c.self.view_is)
    (sym (ap (λ (mails : List MailAloft). c.args.mails.now.items ++ mails) (none_off s a.slots.items none)
    ∙ append-nil c.args.mails.now.items))
