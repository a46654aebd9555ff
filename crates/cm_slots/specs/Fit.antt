-- What is kept of loaded controllers besides: that they are updated in time, and that mail fits those for whom it is.
use Rattle.std.specs.Prelude.{◌≡◌, ◌<◌, true, IfSome}
use Rattle.std.specs.List.{AllByRecursion}
use Rattle.cm_document.specs.declared.description.Description.{Description}
use Rattle.cm_model.specs.Cycle.{period}
use Rattle.cm_model.specs.State.{State, Loaded, MailAloft, is_active}
use Rattle.ctl_trait.specs.Taking.{CanTake}
use Rattle.cm_slots.specs.Updates.{HasTime, IsInTime}

-- It is updated once in some cycles, and these are not longer than a controller may wait.
abbrev pub IsTimedIn : Description → Loaded → Type 0
IsTimedIn d l = HasTime l × IsInTime (period d) l

-- mail waits for an active controller alone, which can take it
abbrev pub IsWaiting : Loaded → Type 0
IsWaiting l = IfSome l.mail (λ mail. (is_active l ≡ true) × CanTake l.ctl mail)

-- if the mail is for this controller, it is active and can take it
abbrev pub IsFor : Loaded → MailAloft → Type 0
IsFor l m = m.serial ≡ l.serial → (is_active l ≡ true) × CanTake l.ctl m.mail

-- Of a state: each loaded controller is in time; the mail that waits fits; and so does the mail that is aloft, which no
-- controller to come is for.
pub record AreFit (s : State) : Type 0 where
  pub timed : AllByRecursion (IsTimedIn s.description) s.loaded
  pub waiting : AllByRecursion IsWaiting s.loaded
  pub aloft : AllByRecursion (λ m. (m.serial < s.loads) × AllByRecursion (λ l. IsFor l m) s.loaded) s.mails
