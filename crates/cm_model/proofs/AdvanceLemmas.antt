-- What one advance of a session does, and that settling is to advance until none is left.
use Rattle.std.proofs.Common.{◌≡◌, ℕ, zero, suc, ◌+◌, ◌≤◌, List, [], ◌∷◌, length}
use Rattle.std.proofs.Common.{Option, Some, None, refl, sym, ◌∙◌, inl, inr, arith}
use Rattle.std.proofs.lemmas.Option.{same_Some}
use Rattle.cm_document.proofs.ReadingLemmas.{cases_Option}
use Rattle.cm_document.specs.declared.call.Call.{Call}
use Rattle.cm_model.specs.State.{State}
use Rattle.cm_model.specs.Machine.{step}
use Rattle.cm_model.specs.Scheduled.{Advanced, with_entry, ticket_in, next_call, after_call}
use Rattle.cm_model.specs.Scheduled.{stepped_on, called_on, advance, advances, settle}
use Rattle.cm_model.specs.declared.reply.Reply.{Reply}

-- ---- One advance

-- the call that an advance made, its reply, and what it left
pub record Made (who : ℕ) (a after : Advanced) : Type 0 where
  pub call : Call
  pub reply : Reply
  pub next : next_call a.session.ticket a.session.lines ≡ Some call
  pub stepped : step a.state who call ≡ Some (after.state, reply)
  pub made : after.made ≡ with_entry a.made who call reply
  pub session : after.session ≡ after_call a.session.ticket a.session.lines reply

stepped_on-Made : (who : ℕ) (a after : Advanced) (call : Call) (o : Option (State × Reply))
    → next_call a.session.ticket a.session.lines ≡ Some call
    → step a.state who call ≡ o → stepped_on who a call o ≡ Some after → Made who a after
stepped_on-Made who a after call None next stepped made = cc
stepped_on-Made who a after call (Some reached) next stepped made =
    let same = same_Some _ _ made in
    rw (← same) (record { call = call; reply = reached.1; next = next; stepped = stepped; made = refl; session = refl })

called_on-Made : (who : ℕ) (a after : Advanced) (o : Option Call) → next_call a.session.ticket a.session.lines ≡ o
    → called_on who a o ≡ Some after → Made who a after
called_on-Made who a after None next made = cc
called_on-Made who a after (Some call) next made =
    stepped_on-Made who a after call (step a.state who call) next refl made

pub advance-Made : (who : ℕ) (a after : Advanced) → advance who a ≡ Some after → Made who a after
unfolding advance
advance-Made who a after made = called_on-Made who a after (next_call a.session.ticket a.session.lines) refl made

-- ---- How many advances are left

-- a ticket is one Told
abbrev pub ticket_count : Option ℕ → ℕ
ticket_count None = 0
ticket_count (Some ticket) = 1

-- each line makes two entries at most, its own and its Told
abbrev pub entries_left : Option ℕ → List Call → ℕ
entries_left ticket lines = length lines + length lines + ticket_count ticket

few_tickets : (ticket : Option ℕ) → ticket_count ticket ≤ 1
few_tickets None = omega arith
few_tickets (Some ticket) = omega arith

-- a session that makes a call has one entry less left
after-less : (ticket : Option ℕ) (lines : List Call) (call : Call) (r : Reply) → next_call ticket lines ≡ Some call
    → suc (entries_left (after_call ticket lines r).ticket (after_call ticket lines r).lines)
    ≤ entries_left ticket lines
after-less (Some ticket) lines call r next = omega arith
after-less None [] call r next = cc
after-less None (first ∷ lines) call r next = omega (arith, few_tickets (ticket_in r))

-- one with no entry left makes no call
nothing_left : (ticket : Option ℕ) (lines : List Call) → entries_left ticket lines ≤ 0 → next_call ticket lines ≡ None
nothing_left (Some ticket) lines none = absurd (omega (arith, none))
nothing_left None [] none = refl
nothing_left None (first ∷ lines) none = absurd (omega (arith, none))

abbrev pub left_of : Advanced → ℕ
left_of a = entries_left a.session.ticket a.session.lines

pub advance-less : (who : ℕ) (a after : Advanced) → advance who a ≡ Some after → suc (left_of after) ≤ left_of a
advance-less who a after made =
    let one = advance-Made who a after made in
    rw one.session (after-less a.session.ticket a.session.lines one.call one.reply one.next)

no_advance : (who : ℕ) (a : Advanced) → left_of a ≤ 0 → advance who a ≡ None
unfolding advance
no_advance who a none = rw (nothing_left a.session.ticket a.session.lines none) refl

-- ---- Settling

-- without an advance nothing changes, however often it is tried
advances-none : (k who : ℕ) (a : Advanced) → advance who a ≡ None → advances k who a ≡ a
advances-none zero who a none = refl
advances-none (suc k) who a none = rw (none, advances) refl

-- more tries than there are entries left change nothing
advances-enough : (k j who : ℕ) (a : Advanced) → left_of a ≤ k → left_of a ≤ j → advances k who a ≡ advances j who a
advances-enough zero j who a few enough = sym (advances-none j who a (no_advance who a few))
advances-enough (suc k) zero who a few enough = advances-none (suc k) who a (no_advance who a enough)
advances-enough (suc k) (suc j) who a few enough = elim (cases_Option (advance who a)) [
  | inl none ↦ advances-none (suc k) who a none ∙ sym (advances-none (suc j) who a none)
  | inr (after, some) ↦
      let less = advance-less who a after some in
      rw (some, advances) (advances-enough k j who after (omega (arith, less, few)) (omega (arith, less, enough)))
]

enough_tries : (a : Advanced) → left_of a ≤ suc (length a.session.lines + length a.session.lines)
enough_tries a = omega (arith, few_tickets a.session.ticket)

-- to advance and then to settle is to settle
pub settle-next : (who : ℕ) (a after : Advanced) → advance who a ≡ Some after → settle who after ≡ settle who a
unfolding settle
settle-next who a after some =
    let less = advance-less who a after some in
    rw (some, advances)
    (advances-enough _ (length a.session.lines + length a.session.lines) who after (enough_tries after)
    (omega (arith, less, enough_tries a)))

-- a session that cannot advance is settled
pub settle-stays : (who : ℕ) (a : Advanced) → advance who a ≡ None → settle who a ≡ a
unfolding settle
settle-stays who a none = advances-none (suc (length a.session.lines + length a.session.lines)) who a none

advances-done : (k who : ℕ) (a : Advanced) → left_of a ≤ k → advance who (advances k who a) ≡ None
advances-done zero who a few = no_advance who a few
advances-done (suc k) who a few = elim (cases_Option (advance who a)) [
  | inl none ↦ rw (none, advances) none
  | inr (after, some) ↦ rw (some, advances)
      (advances-done k who after (omega (arith, advance-less who a after some, few)))
]

-- a session that settled cannot advance
pub settled-stands : (who : ℕ) (a : Advanced) → advance who (settle who a) ≡ None
unfolding settle
settled-stands who a = advances-done (suc (length a.session.lines + length a.session.lines)) who a (enough_tries a)

-- ---- What holds of all that advances

-- what each advance keeps, settling keeps
pub settle-keeps : (P : Advanced → Type 0) (who : ℕ) → ((a after : Advanced) → P a → Made who a after → P after)
    → (a : Advanced) → P a → P (settle who a)
unfolding settle
settle-keeps P who keeps a holds = advances-keeps (suc (length a.session.lines + length a.session.lines)) a holds
  where
    advances-keeps : (k : ℕ) (a : Advanced) → P a → P (advances k who a)
    advances-keeps zero a holds = holds
    advances-keeps (suc k) a holds = elim (cases_Option (advance who a)) [
      | inl none ↦ rw (none, advances) holds
      | inr (after, some) ↦ rw (some, advances)
          (advances-keeps k after (keeps a after holds (advance-Made who a after some)))
    ]
