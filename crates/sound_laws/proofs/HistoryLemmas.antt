-- Each step keeps a state steady, so loans hold along each legal history, each due controller runs once in each cycle,
-- and an unload leaves nothing behind.
use Rattle.std.proofs.Common.{◌≡◌, ℕ, List, [], Some, None, refl, sym, ◌∙◌, subst, ap, false}
use Rattle.std.specs.List.{AllByRecursion, IsDistinct}
use Rattle.std.proofs.lemmas.Option.{same_Some}
use Rattle.cm_document.specs.Valid.{IsValid}
use Rattle.cm_document.specs.declared.call.Call.{Call}
use Rattle.cm_document.specs.declared.call.Call.TheVariants.{Load, Configure, Cleanup, Unload, Rate}
use Rattle.cm_document.specs.declared.call.Call.TheVariants.{Send, Switch, Hardware, Begin, End, Close}
use Rattle.cm_document.specs.declared.description.Description.{Description}
use Rattle.cm_model.proofs.StayLemmas.{IsStep, step-IsStep, effect-Stands}
use Rattle.cm_model.proofs.SteadyLemmas.{load_steady, configure_steady, cleanup_steady, unload_steady}
use Rattle.cm_model.proofs.SteadyLemmas.{rate_steady, send_steady, request_steady, close_steady}
use Rattle.cm_model.specs.Console.{unless_refused, place_of, configure_reply, configure_effect}
use Rattle.cm_model.specs.Console.{cleanup_reply, cleanup_effect, unload_reply, unload_effect}
use Rattle.cm_model.specs.Machine.{load_refusals, load_effect, reply_of, effect, step, IsLegal}
use Rattle.cm_model.specs.Serials.{IsNumbered}
use Rattle.cm_model.specs.Sound.{LoansHold, moments, LoansAlwaysHold, RecordIsRight}
use Rattle.cm_model.specs.Sound.{EachDueOneRunsOnce, OneConfigurationEach, DecidesRightly}
use Rattle.cm_model.specs.Sound.{RequestsAreDecidedOnce, UnloadsLeaveNothing, IsSound}
use Rattle.cm_model.specs.State.{State, boot}
use Rattle.cm_model.specs.Steady.{IsSteady}
use Rattle.cm_model.specs.declared.blanks.Blanks.{Blanks}
use Rattle.cm_model.specs.declared.entry.Entry.{Entry}
use Rattle.cm_model.specs.declared.reply.Reply.{Reply}
use Rattle.cm_model.specs.declared.reply.Reply.TheVariants as reply
use Rattle.cm_model.specs.declared.request.Request.TheVariants as request
use Rattle.sound_laws.proofs.MomentLemmas.{along}
use Rattle.sound_laws.proofs.BetweenLemmas.{configuration_from}
use Rattle.sound_laws.proofs.BootLemmas.{boot_steady}
use Rattle.sound_laws.proofs.BoundaryLemmas.{begin_steady}
use Rattle.sound_laws.proofs.CycleLemmas.{after_steady}
use Rattle.sound_laws.proofs.FallbackLemmas.{led_from}
use Rattle.sound_laws.proofs.GoneLemmas.{unloads_from}
use Rattle.sound_laws.proofs.LoanLemmas.{loans_hold}
use Rattle.sound_laws.proofs.DecidedLemmas.{decides_rightly}
use Rattle.sound_laws.proofs.ReplyLemmas.{of_reply}
use Rattle.sound_laws.proofs.ToldLemmas.{tickets_from}
use Rattle.sound_laws.proofs.RunLemmas.{runs_once}
use Rattle.sound_laws.proofs.SerialLemmas.{renumbered_numbered, effect_renumbered}
use Rattle.sound_laws.proofs.ValidLemmas.{valid-IsChecked}

-- what each call leaves that was answered so
effect_steady : (s : State) (call : Call) (r : Reply) → IsValid s.description → IsSteady s → reply_of s call ≡ Some r
    → IsSteady (effect s call r)
effect_steady s (Load name) r valid steady replied =
    subst (λ answer. IsSteady (load_effect s name answer))
    (same_Some (unless_refused (load_refusals s (place_of s name)) (reply.Serial s.loads)) r replied)
    (load_steady s name steady)
effect_steady s (Configure name) r valid steady replied =
    subst (λ answer. IsSteady (configure_effect s name answer)) (same_Some (configure_reply s name) r replied)
    (configure_steady s name steady)
effect_steady s (Cleanup name) r valid steady replied =
    subst (λ answer. IsSteady (cleanup_effect s name answer)) (same_Some (cleanup_reply s name) r replied)
    (cleanup_steady s name steady)
effect_steady s (Unload name) r valid steady replied =
    subst (λ answer. IsSteady (unload_effect s name answer)) (same_Some (unload_reply s name) r replied)
    (unload_steady s name steady)
effect_steady s (Rate name hz) r valid steady replied = rate_steady s name hz r steady
effect_steady s (Send name mail) r valid steady replied = send_steady s name mail r steady
effect_steady s (Switch asked) r valid steady replied = request_steady s (request.Switch asked) r steady
effect_steady s (Hardware component target) r valid steady replied =
    request_steady s (request.Hardware component target) r steady
effect_steady s (Begin _) r valid steady replied = begin_steady s steady
effect_steady s (End _) r valid steady replied = after_steady s valid steady
effect_steady s Close r valid steady replied = close_steady s steady
effect_steady s _ r valid steady replied = steady

-- ---- What each step keeps

-- The description is valid, the state steady, and its serials rise.
record IsKept (s : State) : Type 0 where
  valid : IsValid s.description
  steady : IsSteady s
  numbered : IsNumbered s

made_steady : (s : State) (call : Call) (made : State × Reply) → IsValid s.description → IsSteady s → IsStep s call made
    → IsSteady made.0
made_steady s call made valid steady is =
    subst IsSteady (sym is.next) (effect_steady s call made.1 valid steady is.replied)

-- Each step keeps a state steady.
pub step_steady : (s : State) (who : ℕ) (call : Call) (made : State × Reply) → IsValid s.description → IsSteady s
    → step s who call ≡ Some made → IsSteady made.0
step_steady s who call made valid steady stepped =
    made_steady s call made valid steady (step-IsStep s who call made stepped)

keeps : (s : State) (call : Call) (made : State × Reply) → IsKept s → IsStep s call made → IsKept made.0
keeps s call made kept is = record {
  valid = subst IsValid (sym (ap (λ (t : State). t.description) is.next ∙ (effect-Stands s call made.1).description))
      kept.valid;
  steady = made_steady s call made kept.valid kept.steady is;
  numbered = subst IsNumbered (sym is.next)
      (renumbered_numbered s (effect s call made.1) (effect_renumbered s call made.1) kept.numbered);
}

-- ---- From boot on

boot_numbered : (d : Description) (blanks : Blanks) (sessions : ℕ) → IsNumbered (boot d blanks sessions)
unfolding IsDistinct
boot_numbered d blanks sessions = record { rising = tt; once = tt; below = tt }

module _ (d : Description) (blanks : Blanks) (sessions : ℕ) (history : List Entry) (valid : IsValid d)
    (legal : IsLegal d blanks sessions history) where
  begins : IsKept (boot d blanks sessions)
  begins = record { valid = valid; steady = boot_steady d blanks sessions; numbered = boot_numbered d blanks sessions }

  -- Loans are exclusive and present after each call.
  pub loans_at_all_times : LoansAlwaysHold (moments (boot d blanks sessions) history)
  loans_at_all_times =
      along IsKept (λ moment. LoansHold moment.after) keeps
      (λ s call made kept is. let after = keeps s call made kept is in
      loans_hold made.0 after.valid after.steady after.numbered)
      (boot d blanks sessions) history begins legal

  -- In each cycle each due controller runs once, predecessors first.
  pub each_due_one_runs_once : EachDueOneRunsOnce (moments (boot d blanks sessions) history)
  each_due_one_runs_once =
      along IsKept (λ moment. RecordIsRight moment.before moment.reply) keeps
      (λ s call made kept is. of_reply s (RecordIsRight s) call (record {
        refused = λ reason. tt;
        done = tt;
        serial = tt;
        controllers = tt;
        interfaces = tt;
        components = tt;
        decisions = λ decides decisions. tt;
        queued = tt;
        became = λ became. tt;
        cycle = runs_once s (valid-IsChecked s.description kept.valid).free kept.numbered.once;
      }) made.1 is.replied)
      (boot d blanks sessions) history begins legal

  -- Each begin decides rightly.
  begins_right : AllByRecursion (λ moment. DecidesRightly moment moment.call) (moments (boot d blanks sessions) history)
  begins_right =
      along IsKept (λ moment. DecidesRightly moment moment.call) keeps
      (λ s call made kept is. decides_rightly s call made kept.steady is) (boot d blanks sessions) history begins legal

  -- Each request is decided once, a strict switch whole or not at all.
  pub requests_decided_once : RequestsAreDecidedOnce (moments (boot d blanks sessions) history)
  requests_decided_once = record {
    tickets = tickets_from (boot d blanks sessions) [] history refl legal;
    whole = begins_right;
    fallbacks = led_from (boot d blanks sessions) [] history refl legal;
  }

-- An unload leaves nothing behind.
pub unloads_leave_nothing : (d : Description) (blanks : Blanks) (sessions : ℕ) (history : List Entry)
    → IsLegal d blanks sessions history
    → UnloadsLeaveNothing (moments (boot d blanks sessions) history)
unloads_leave_nothing d blanks sessions history legal =
    unloads_from (boot d blanks sessions) history (boot_numbered d blanks sessions) legal

-- From a begin to its end one configuration holds.
pub one_configuration : (d : Description) (blanks : Blanks) (sessions : ℕ) (history : List Entry)
    → IsLegal d blanks sessions history
    → OneConfigurationEach (moments (boot d blanks sessions) history)
one_configuration d blanks sessions history legal = configuration_from (boot d blanks sessions) None history tt legal

-- Every legal history of a valid description is sound.
pub legal_sound : (d : Description) (blanks : Blanks) (sessions : ℕ) (history : List Entry) → IsValid d
    → IsLegal d blanks sessions history → IsSound d blanks sessions history
legal_sound d blanks sessions history valid legal = record {
  loans = loans_at_all_times d blanks sessions history valid legal;
  updates = each_due_one_runs_once d blanks sessions history valid legal;
  configurations = one_configuration d blanks sessions history legal;
  requests = requests_decided_once d blanks sessions history valid legal;
  unloads = unloads_leave_nothing d blanks sessions history legal;
}
