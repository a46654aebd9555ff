-- That no mail waits where it is told so, whatever becomes of controllers.
use Rattle.std.proofs.Common.{◌≡◌, ℕ, zero, suc, Bool, true, false, List, [], ◌∷◌, map, slice_set}
use Rattle.std.proofs.Common.{Option, Some, None, true≢false, refl, sym, ap, ap₂, ◌∙◌}
use Rattle.std.specs.Prelude.{◌||◌, ◌&&◌, if◌then◌else◌, slice_get, filter_map}
use Rattle.std.specs.Prelude.{option_map, OnOk, OnErr, Result, Ok, Err}
use Rattle.std.specs.List.{AllByRecursion, cons_option, list_any}
use Rattle.sequence.proofs.ListLemmas.{all_at, all_set}
use Rattle.cm_document.proofs.DistinctLemmas.{all_so}
use Rattle.cm_document.specs.declared.call.Mail.{Mail}
use Rattle.cm_document.specs.declared.description.Params.{Params}
use Rattle.cm_hardware.proofs.MoveLemmas.{all_of_each}
use Rattle.cm_model.specs.Commit.{leaving}
use Rattle.cm_model.specs.Controllers.{configured}
use Rattle.cm_model.specs.Cycle.{is_due_now, mail_off, without_mail_off}
use Rattle.cm_model.specs.Order.{set_of}
use Rattle.cm_model.specs.State.{State, Loaded, MailAloft, is_active}
use Rattle.cm_model.specs.declared.data.CtlData.{CtlData}
use Rattle.chain_order.specs.Links.{linked}
use Rattle.cm_places.specs.Placed.{Placed}
use Rattle.cm_slots.specs.Commits.{come, committed_at}
use Rattle.cm_slots.specs.Lent.{with_ctl, with_ctls}
use Rattle.cm_slots.specs.Mails.{has_mail, WaitsAsTold}
use Rattle.cm_slots.specs.Connections.{numbers_at}
use Rattle.ctl_trait.specs.declared.fault.CfgFault.{CfgFault}
use Rattle.loan_board.specs.declared.board.Loan.{Loan}

-- ---- One is changed

-- it is set, and its mail stays as it is
pub told_set : (waits : Bool) (ls : List Loaded) (i : ℕ) (old new : Loaded) → slice_get ls i ≡ Some old
    → new.mail ≡ old.mail → AllByRecursion (WaitsAsTold waits) ls
    → AllByRecursion (WaitsAsTold waits) (slice_set ls i new)
told_set waits ls i old new at same told =
    all_set (WaitsAsTold waits) ls i new told (λ none. same ∙ all_at (WaitsAsTold waits) ls i old told at none)

-- so does a configure, whether or not it is refused
pub mail_after : (result : Result (Unit {0}) CfgFault) (l new : Loaded) (params : Params) (divisor : ℕ)
    → OnOk result (new ≡ record l { ctl = configured l.ctl params; divisor = Some divisor }) → OnErr result (new ≡ l)
    → new.mail ≡ l.mail
mail_after (Ok u) l new params divisor made kept = ap (λ (x : Loaded). x.mail) made
mail_after (Err e) l new params divisor made kept = ap (λ (x : Loaded). x.mail) kept

-- ---- All are

-- where some mail may wait nothing is told
pub told_of_some : (ls : List Loaded) → AllByRecursion (WaitsAsTold true) ls
told_of_some [] = tt
told_of_some (l ∷ ls) = (λ none. absurd (true≢false none), told_of_some ls)

-- a commit posts no mail
pub told_committed : (waits : Bool) (placed : Placed) (loans : List Loan) (chained stopped started : List Bool)
    (ls : List Loaded) → AllByRecursion (WaitsAsTold waits) ls
    → AllByRecursion (WaitsAsTold waits) (map (committed_at placed loans chained stopped started) ls)
told_committed waits placed loans chained stopped started ls told =
    all_of_each (WaitsAsTold waits) (WaitsAsTold waits) (committed_at placed loans chained stopped started)
    (λ l before none. one (set_of started l.place) (set_of stopped l.place) l (before none)) ls told
  where
    one : (starts stops : Bool) (l : Loaded) → l.mail ≡ None
        → (if starts then come (numbers_at loans (linked placed.reads l.place)) (set_of chained l.place) l
        else (if stops then leaving l else l)).mail ≡ None
    one true stops l none = refl
    one false true l none = refl
    one false false l none = none

-- nor does a box that comes home
told_with : (waits : Bool) (k : ℕ) (ctl : CtlData) (ls : List Loaded) → AllByRecursion (WaitsAsTold waits) ls
    → AllByRecursion (WaitsAsTold waits) (with_ctl k ctl ls)
told_with waits k ctl [] told = tt
told_with waits zero ctl (l ∷ ls) told = told
told_with waits (suc k) ctl (l ∷ ls) told = (told.0, told_with waits k ctl ls told.1)

pub told_parked : (waits : Bool) (ks : List ℕ) (ctls : List CtlData) (ls : List Loaded)
    → AllByRecursion (WaitsAsTold waits) ls → AllByRecursion (WaitsAsTold waits) (with_ctls ks ctls ls)
told_parked waits [] ctls ls told = told
told_parked waits (k ∷ ks) [] ls told = told
told_parked waits (k ∷ ks) (ctl ∷ ctls) ls told =
    told_with waits k ctl (with_ctls ks ctls ls) (told_parked waits ks ctls ls told)

-- ---- Mail that goes off

no_mail : (mail : Option Mail) (l : Loaded) → l.mail ≡ mail → has_mail l ≡ false → l.mail ≡ None
no_mail None l is none = is
no_mail (Some mail) l is none = cc

neither : (a b : Bool) → (a || b) ≡ false → (a ≡ false) × (b ≡ false)
neither true b none = cc
neither false b none = (refl, none)

none_has : (ls : List Loaded) → list_any has_mail ls ≡ false → AllByRecursion (λ l. l.mail ≡ None) ls
none_has [] none = tt
none_has (l ∷ ls) none =
    let each = neither (has_mail l) (list_any has_mail ls) none in
    (no_mail l.mail l refl each.0, none_has ls each.1)

-- that some wait is told where they are looked at
pub told_looked : (ls : List Loaded) → AllByRecursion (WaitsAsTold (list_any has_mail ls)) ls
told_looked ls = either (list_any has_mail ls) refl
  where
    either : (some : Bool) → list_any has_mail ls ≡ some → AllByRecursion (WaitsAsTold some) ls
    either true is = told_of_some ls
    either false is =
        all_so (λ (l : Loaded). l.mail ≡ None) (WaitsAsTold false) (λ l none told. none) ls (none_has ls is)

-- where none waits, none goes off,
pub none_goes : (s : State) (ls : List Loaded) → AllByRecursion (WaitsAsTold false) ls
    → map (without_mail_off s) ls ≡ ls
none_goes s [] told = refl
none_goes s (l ∷ ls) told =
    ap₂ (λ (m : Loaded) (ms : List Loaded). m ∷ ms) (one (is_active l && is_due_now s l) (told.0 refl))
    (none_goes s ls told.1)
  where
    one : (goes : Bool) → l.mail ≡ None → (if goes then record l { mail = None } else l) ≡ l
    one true none = ap (λ (mail : Option Mail). record l { mail = mail }) (sym none)
    one false none = refl

-- and nothing is aloft of it
pub none_off : (s : State) (ls : List Loaded) → AllByRecursion (WaitsAsTold false) ls → filter_map (mail_off s) ls ≡ []
none_off s [] told = refl
none_off s (l ∷ ls) told =
    ap₂ (λ (first : Option MailAloft) (rest : List MailAloft). cons_option first rest)
    (one (is_active l && is_due_now s l) (told.0 refl)) (none_off s ls told.1)
  where
    aloft : Mail → MailAloft
    aloft mail = record { serial = l.serial; mail = mail }

    one : (goes : Bool) → l.mail ≡ None → (if goes then option_map aloft l.mail else None) ≡ None
    one true none = ap (option_map aloft) none
    one false none = refl
