-- What an update makes of the board, and what it keeps of a controller.
use Rattle.std.proofs.Common.{◌≡◌, ℕ, ◌+◌, ◌<◌, ℤ, Bool, true, false, List, [], ◌∷◌, length, get_or}
use Rattle.std.proofs.Common.{drop, Option, Some, None, option_map, refl, sym, ap, ap₂, ◌∙◌, arith}
use Rattle.std.specs.Prelude.{◌==◌, IsSomeAnd}
use Rattle.std.specs.List.{list_any}
use Rattle.std.proofs.lemmas.Bool.{eqb-true}
use Rattle.std.proofs.lemmas.Option.{same_Some}
use Rattle.std.proofs.lemmas.List.{drop_more}
use Rattle.sound_laws.proofs.UpdatedLemmas.{ctl_step_params}
use Rattle.fixed_num.specs.declared.value.Value.{Value}
use Rattle.cm_document.specs.declared.call.Mail.{Mail}
use Rattle.cm_model.proofs.ControllerLemmas.{ctl_step_keeps_chained}
use Rattle.cm_model.specs.Controllers.{Stepped, runs_chained, ctl_step, CanBeMailed}
use Rattle.cm_model.specs.declared.data.CtlData.{CtlData}
use Rattle.cm_model.specs.declared.data.RunData.{RunData}
use Rattle.cm_storage.specs.declared.record.FailedPart.{FailedPart}
use Rattle.cm_model.specs.declared.tick.Tick.{Tick}
use Rattle.loan_board.specs.Loans.{with_loan, set}
use Rattle.cm_hardware.specs.Wiring.{Wired}
use Rattle.cm_model.specs.Kinds.{publishes}
use Rattle.ctl_trait.specs.Taking.{CanTake, CanTakeIf}
use Rattle.cm_slots.specs.Lives.{once_taken}
use Rattle.cm_slots.specs.Updates.{put_on}
use Rattle.cm_slots.proofs.StepLemmas.{kind_stepped, kind_once_taken, step_is}

-- ---- The board

-- the next output is set, and then the others
pub put_more : (w : Wired) (claims : List ℕ) (outs : List Value) (i place : ℕ) (out : Value) → i < length claims
    → i < length outs → place ≡ get_or claims i place → out ≡ get_or outs i out
    → record w { loans = put_on (with_loan w.loans place (set out)) (drop (i + 1) claims) (drop (i + 1) outs) }
    ≡ record w { loans = put_on w.loans (drop i claims) (drop i outs) }
put_more w claims outs i place out within among here is =
    let places : drop i claims ≡ place ∷ drop (i + 1) claims =
    drop_more claims i place within ∙ ap (λ (n : ℕ). n ∷ drop (i + 1) claims) (sym here) in
    let values : drop i outs ≡ out ∷ drop (i + 1) outs =
    drop_more outs i out among ∙ ap (λ (v : Value). v ∷ drop (i + 1) outs) (sym is) in
    ap₂ (λ (ps : List ℕ) (vs : List Value). record w { loans = put_on w.loans ps vs }) (sym places) (sym values)

-- ---- A step

pub step_kind : (ctl : CtlData) (tick : Tick) (states : List ℤ) (refs : List Value) (mail : Option Mail)
    → (ctl_step ctl tick states refs mail).after.kind ≡ ctl.kind
step_kind ctl tick states refs mail =
    ap (λ (step : Stepped). step.after.kind) (step_is ctl tick states refs mail)
    ∙ kind_stepped (once_taken ctl mail) (once_taken ctl mail).params (once_taken ctl mail).run tick states refs
    ∙ kind_once_taken ctl mail

-- what is marked as before is marked so
still_marked : (old new : Option RunData) → option_map runs_chained new ≡ option_map runs_chained old
    → IsSomeAnd old (λ part. runs_chained part ≡ false)
    → IsSomeAnd new (λ part. runs_chained part ≡ false)
still_marked None new same mark = absurd mark
still_marked (Some part) None same mark = cc
still_marked (Some part) (Some part') same mark = same_Some (runs_chained part') (runs_chained part) same ∙ mark

still_mailed : (ctl ctl' : CtlData) (mail : Mail) → ctl'.params ≡ ctl.params
    → option_map runs_chained ctl'.run ≡ option_map runs_chained ctl.run → CanBeMailed ctl mail
    → CanBeMailed ctl' mail
still_mailed ctl ctl' mail params marks can =
    record { configured = rw params can.configured; running = still_marked ctl.run ctl'.run marks can.running }

still_takes_if : (publishing : Bool) (ctl ctl' : CtlData) (mail : Mail) → ctl'.params ≡ ctl.params
    → option_map runs_chained ctl'.run ≡ option_map runs_chained ctl.run
    → CanTakeIf publishing ctl mail → CanTakeIf publishing ctl' mail
still_takes_if true ctl ctl' mail params marks can = tt
still_takes_if false ctl ctl' mail params marks can = still_mailed ctl ctl' mail params marks can

-- after a step it takes the mail that it took before
pub still_takes : (ctl : CtlData) (tick : Tick) (states : List ℤ) (refs : List Value) (aloft : Option Mail)
    (mail : Mail) → CanTake ctl mail
    → CanTake (ctl_step ctl tick states refs aloft).after mail
still_takes ctl tick states refs aloft mail can =
    rw (step_kind ctl tick states refs aloft)
    (still_takes_if (publishes ctl.kind) ctl (ctl_step ctl tick states refs aloft).after mail
    (ctl_step_params ctl tick states refs aloft)
    (ctl_step_keeps_chained ctl tick states refs aloft) can)

-- ---- Held off

pub none_held : (failed : List FailedPart) (row : List ℕ) → (length failed == 0) ≡ true
    → list_any (λ component. list_any (λ (part : FailedPart). part.place == component) failed) row ≡ false
none_held [] [] none = refl
none_held [] (component ∷ row) none = none_held [] row none
none_held (part ∷ failed) row none =
    let e = eqb-true (length (part ∷ failed)) 0 none in absurd (omega (arith, e))
