-- What the console's calls on one controller leave of what fits.
use Rattle.std.proofs.Common.{◌≡◌, ℕ, Bool, true, false, Result, Ok, Err, Option, Some, None, refl, sym, ap, subst, ◌∙◌}
use Rattle.std.specs.Prelude.{◌&&◌, not, is_some, slice_get, slice_set, IfSome, OnOk, OnErr}
use Rattle.sequence.proofs.ListLemmas.{all_at}
use Rattle.cm_document.specs.Valid.{IsValid}
use Rattle.cm_document.specs.declared.call.Mail.{Mail}
use Rattle.cm_document.specs.declared.description.CtlDesc.{CtlDesc}
use Rattle.cm_model.specs.Console.{is_inactive, after_cleanup, after_rate, after_send}
use Rattle.cm_model.specs.Controllers.{configured}
use Rattle.cm_model.specs.Order.{divisor}
use Rattle.cm_model.specs.State.{State, Loaded, MailAloft, is_active}
use Rattle.ctl_trait.specs.Taking.{CanTake}
use Rattle.ctl_trait.specs.declared.fault.CfgFault.{CfgFault}
use Rattle.cm_slots.specs.Fit.{IsTimedIn, IsWaiting, IsFor, AreFit}
use Rattle.cm_slots.proofs.FitLemmas.{fit_changed, timed_configured}

-- no mail waits for one that is not active
no_mail : (l : Loaded) (mail : Option Mail) → is_active l ≡ false
    → IfSome mail (λ m. (is_active l ≡ true) × CanTake l.ctl m) → mail ≡ None
no_mail l None idle waiting = refl
no_mail l (Some m) idle waiting = let no : false ≡ true = sym idle ∙ waiting.0 in cc

waits_none : (l : Loaded) → l.mail ≡ None → IsWaiting l
waits_none l none = rw none tt

-- nor is any aloft for it
for_none : (l after : Loaded) (m : MailAloft) → is_active l ≡ false → after.serial ≡ l.serial → IsFor l m
    → IsFor after m
for_none l after m idle serial is same = let no : false ≡ true = sym idle ∙ (is (same ∙ serial)).0 in cc

module _ (s : State) (i : ℕ) (l : Loaded) (there : slice_get s.loaded i ≡ Some l) (fit : AreFit s) where
  waits_not : is_active l ≡ false → l.mail ≡ None
  waits_not idle = no_mail l l.mail idle (all_at IsWaiting s.loaded i l fit.waiting there)

  pub fit_rate : (hz : ℕ) → AreFit (record s { loaded = slice_set s.loaded i (after_rate hz l) })
  fit_rate hz =
      fit_changed s i l (after_rate hz l) there (all_at (IsTimedIn s.description) s.loaded i l fit.timed there)
      (all_at IsWaiting s.loaded i l fit.waiting there)
      (λ m is. is) fit

  pub fit_cleanup : is_active l ≡ false → AreFit (record s { loaded = slice_set s.loaded i (after_cleanup l) })
  fit_cleanup idle =
      fit_changed s i l (after_cleanup l) there (tt, tt) (waits_none (after_cleanup l) (waits_not idle))
      (λ m is. for_none l (after_cleanup l) m idle refl is) fit

  pub fit_configured : (c : CtlDesc) → IsValid s.description → is_active l ≡ false
      → AreFit (record s {
        loaded = slice_set s.loaded i
            (record l { ctl = configured l.ctl c.params; divisor = Some (divisor s.description.update_rate l.rate) });
      })
  fit_configured c valid idle =
      let after : Loaded =
      record l { ctl = configured l.ctl c.params; divisor = Some (divisor s.description.update_rate l.rate) } in
      fit_changed s i l after there (timed_configured s.description l c valid) (waits_none after (waits_not idle))
      (λ m is. for_none l after m idle refl is) fit

  pub fit_after_configure : (c : CtlDesc) (n : ℕ) (after : Loaded) (result : Result (Unit {0}) CfgFault)
      → IsValid s.description → is_active l ≡ false
      → n ≡ divisor s.description.update_rate l.rate
      → OnOk result (after ≡ record l { ctl = configured l.ctl c.params; divisor = Some n }) → OnErr result (after ≡ l)
      → AreFit (record s { loaded = slice_set s.loaded i after })
  fit_after_configure c n after (Ok u) valid idle rate made kept =
      subst (λ (x : Loaded). AreFit (record s { loaded = slice_set s.loaded i x }))
      (sym (made ∙ ap (λ (k : ℕ). record l { ctl = configured l.ctl c.params; divisor = Some k }) rate))
      (fit_configured c valid idle)
  fit_after_configure c n after (Err e) valid idle rate made kept =
      subst (λ (x : Loaded). AreFit (record s { loaded = slice_set s.loaded i x })) (sym kept)
      (fit_changed s i l l there (all_at (IsTimedIn s.description) s.loaded i l fit.timed there)
      (all_at IsWaiting s.loaded i l fit.waiting there) (λ m is. is) fit)

  pub fit_sent : (mail : Mail) → is_active l ≡ true → CanTake l.ctl mail
      → AreFit (record s { loaded = slice_set s.loaded i (after_send mail l) })
  fit_sent mail runs takes =
      fit_changed s i l (after_send mail l) there (all_at (IsTimedIn s.description) s.loaded i l fit.timed there)
      (runs, takes) (λ m is. is) fit

-- one that is inactive is not active
pub idle_of_inactive : (l : Loaded) → is_inactive l ≡ true → is_active l ≡ false
idle_of_inactive l is = idle (is_some l.ctl.params) (is_active l) is
  where
    idle : (params run : Bool) → (params && not run) ≡ true → run ≡ false
    idle true true is = cc
    idle true false is = refl
    idle false run is = cc
