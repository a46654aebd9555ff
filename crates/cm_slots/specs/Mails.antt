-- The mail that waits for controllers, and that is aloft with a cycle.
use Rattle.std.specs.Prelude.{◌≡◌, ℕ, Bool, false, ◌&&◌, ◌==◌, if◌then◌else◌, List, [], ◌∷◌, ◌++◌, option_to_list, find}
use Rattle.std.specs.Prelude.{Option, None, option_map, is_some}
use Rattle.std.specs.Option.{option_map_or}
use Rattle.cm_document.specs.declared.call.Mail.{Mail}
use Rattle.cm_model.specs.Order.{is_due}
use Rattle.cm_model.specs.State.{Loaded, MailAloft, is_active}

-- ---- Mail that waits

-- mail waits for it
abbrev pub has_mail : Loaded → Bool
has_mail l = is_some l.mail

-- Where it is told that no mail waits, none waits for it.
abbrev pub WaitsAsTold : Bool → Loaded → Type 0
WaitsAsTold mail_waits l = mail_waits ≡ false → l.mail ≡ None

-- ---- Mail that is aloft

-- the first for the controller of this serial, where there is some
abbrev pub mail_in : List MailAloft → ℕ → Option Mail
mail_in mails serial = option_map (λ aloft. aloft.mail) (find (λ aloft. aloft.serial == serial) mails)

-- the others, once that one is taken
abbrev pub without_mail : ℕ → List MailAloft → List MailAloft
without_mail serial [] = []
without_mail serial (m ∷ ms) = if m.serial == serial then ms else m ∷ without_mail serial ms

-- it is updated once in so many cycles, and this is one of them
abbrev pub is_due_in : ℕ → Loaded → Bool
is_due_in cycle l = option_map_or (is_due cycle) l.divisor false

-- its mail goes aloft with the cycle of this number: it is active and due
abbrev pub goes_aloft : ℕ → Loaded → Bool
goes_aloft cycle l = is_active l && is_due_in cycle l

-- what then goes aloft, and the controller without it
abbrev pub sent : ℕ → Loaded → Option MailAloft
sent cycle l = if goes_aloft cycle l then option_map (λ mail. record {
  serial = l.serial;
  mail = mail;
}) l.mail else None

abbrev pub without_sent : ℕ → Loaded → Loaded
without_sent cycle l = if goes_aloft cycle l then record l { mail = None } else l

-- the mails that are aloft, and then that of this one
abbrev pub with_sent : ℕ → Loaded → List MailAloft → List MailAloft
with_sent cycle l mails = mails ++ option_to_list (sent cycle l)

-- and then that of these, one after the other
abbrev pub with_all_sent : ℕ → List Loaded → List MailAloft → List MailAloft
with_all_sent cycle [] mails = mails
with_all_sent cycle (l ∷ ls) mails = with_all_sent cycle ls (with_sent cycle l mails)
