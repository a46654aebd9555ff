use Rattle.std.proofs.Common.{◌≡◌, Some, None, sym, ap, ◌∙◌}
use Rattle.std.specs.Prelude.{position}
use Rattle.cm_model.specs.State.{MailAloft}
use Rattle.cm_slots.proofs.MailLemmas.{is_for, mail_at, left_without, none_for, none_left_out}
use Rattle.cm_slots.proofs.mails.take_mail.Goals as goal

-- the first for it is taken
pub returns-in-Some-clause-taken : goal.returns-in-Some-clause-taken
returns-in-Some-clause-taken c =
    let found : position (is_for c.args.serial) c.args.mails.now.items ≡ Some c.in-Some.index =
    sym (rw c.deref.ensures.value at c.in-Some.ensures.first) in
    ap (λ (m : MailAloft). Some m.mail) c.result.view_is
    ∙ sym (mail_at c.args.serial c.args.mails.now.items c.in-Some.index c.remove.result found c.remove.ensures.value)

pub returns-in-Some-clause-left : goal.returns-in-Some-clause-left
returns-in-Some-clause-left c =
    let found : position (is_for c.args.serial) c.args.mails.now.items ≡ Some c.in-Some.index =
    sym (rw c.deref.ensures.value at c.in-Some.ensures.first) in
    c.remove.ensures.items ∙ sym (left_without c.args.serial c.args.mails.now.items c.in-Some.index found)

-- there is none
pub returns-in-None-clause-taken : goal.returns-in-None-clause-taken
returns-in-None-clause-taken c =
    let none : position (is_for c.args.serial) c.args.mails.now.items ≡ None =
    sym (rw c.deref.ensures.value at c.in-None.ensures.first) in
    sym (none_for c.args.serial c.args.mails.now.items none)

pub returns-in-None-clause-left : goal.returns-in-None-clause-left
returns-in-None-clause-left c =
    let none : position (is_for c.args.serial) c.args.mails.now.items ≡ None =
    sym (rw c.deref.ensures.value at c.in-None.ensures.first) in
    sym (none_left_out c.args.serial c.args.mails.now.items none)
