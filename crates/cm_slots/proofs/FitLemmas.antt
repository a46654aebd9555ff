-- What is kept of loaded controllers besides: each call keeps it.
use Rattle.std.proofs.Common.{◌≡◌, ℕ, zero, suc, ◌+◌, ◌*◌, ◌/◌, ◌<◌, ◌≤◌, Bool, true, false, List, [], ◌∷◌, ◌++◌}
use Rattle.std.proofs.Common.{map, Option, Some, None, option_map, inl, inr, refl, sym, ap, ◌∙◌, true≢false, arith}
use Rattle.std.specs.Prelude.{◌==◌, ◌&&◌, ◌||◌, nat_le, if◌then◌else◌, slice_get}
use Rattle.std.specs.Prelude.{slice_set, remove, filter_map, is_some, IfSome, IsSomeAnd}
use Rattle.std.specs.List.{AllByRecursion, Contains, cons_option}
use Rattle.std.specs.Option.{option_map_or}
use Rattle.std.proofs.Math.Nat.{div-le_self, mul-div-le, mul-le-mul_right}
use Rattle.std.proofs.lemmas.Bool.{cases_Bool, eq-eqb, leb-false}
use Rattle.std.proofs.lemmas.Nat.{le-div}
use Rattle.cm_model.proofs.SteadyLemmas.{all_remove}
use Rattle.ctl_trait.proofs.TakingLemmas.{can_take}
use Rattle.cm_model.proofs.UpdateLemmas.{some_as_mapped}
use Rattle.sequence.proofs.ListLemmas.{all_push, all_set}
use Rattle.sequence.proofs.ListLemmas as items
use Rattle.cm_document.proofs.DistinctLemmas.{all_so, all_map}
use Rattle.cm_document.specs.Valid.{IsValid}
use Rattle.cm_document.specs.declared.call.Mail.{Mail}
use Rattle.cm_document.specs.declared.description.CtlDesc.{CtlDesc}
use Rattle.cm_document.specs.declared.description.Description.{Description}
use Rattle.cm_document.specs.declared.description.Params.{Params}
use Rattle.cm_model.proofs.ControllerLemmas.{ctl_step_keeps_chained}
use Rattle.cm_model.specs.Claims.{states_for, refs_for}
use Rattle.cm_model.specs.Commit.{described_of, coming, leaving, committed, scene_of, commit}
use Rattle.cm_model.specs.Components.{read_succeeds}
use Rattle.cm_model.specs.Controllers.{configured, runs_chained}
use Rattle.cm_model.specs.Cycle.{period, component_is, is_due_now, mail_off, without_mail_off, tick_of}
use Rattle.cm_model.specs.Cycle.{mail_for, step_of, stepped_at, Updates, updated_in, cycle, landed, begun}
use Rattle.cm_model.specs.Kinds.{takes}
use Rattle.cm_model.specs.Order.{Places, divisor}
use Rattle.cm_model.specs.Scene.{is_chained_in}
use Rattle.cm_model.specs.Serials.{IsNumbered}
use Rattle.cm_model.specs.State.{State, Loaded, MailAloft, is_active, active}
use Rattle.cm_model.specs.Steady.{IsSteady}
use Rattle.cm_model.specs.Switches.{is_stopped, is_started}
use Rattle.cm_model.specs.Values.{InterfaceValue, after_reads}
use Rattle.cm_model.specs.declared.TheConstants.{SECOND_US}
use Rattle.cm_model.specs.declared.blanks.Blanks.{Blanks}
use Rattle.cm_model.specs.declared.data.RunData.{RunData}
use Rattle.ctl_trait.specs.Taking.{CanTake}
use Rattle.switch_plan.proofs.ElementLemmas.{here, later}
use Rattle.cm_model.proofs.InterfaceLemmas.{all_map_back}
use Rattle.sound_laws.proofs.ParamsLemmas.{all_at, all_each}
use Rattle.sound_laws.proofs.RunLemmas.{one_of_serial}
use Rattle.sound_laws.proofs.UpdatedLemmas.{updates_all}
use Rattle.cm_slots.specs.Fit.{IsTimedIn, IsWaiting, IsFor, AreFit}
use Rattle.cm_slots.specs.Updates.{HasTime, IsInTime}
use Rattle.cm_slots.proofs.UpdateLemmas.{still_takes}
use Rattle.cm_document.proofs.ValidParts.{described_rate_is_some}

-- ---- Lists

all_found : {A B : Type 0} (P : B → Type 0) (f : A → Option B) (xs : List A)
    → ((x : A) → Contains xs x → IfSome (f x) P) → AllByRecursion P (filter_map f xs)
all_found P f [] holds = tt
all_found {A} {B} P f (x ∷ xs) holds =
    one (f x) (holds x (here x xs)) (all_found P f xs (λ y inside. holds y (later x xs y inside)))
  where
    one : (o : Option B) → IfSome o P → AllByRecursion P (filter_map f xs)
        → AllByRecursion P (cons_option o (filter_map f xs))
    one None holds rest = rest
    one (Some y) holds rest = (holds, rest)

some_so : {A : Type 0} (P Q : A → Type 0) → ((x : A) → P x → Q x) → (o : Option A) → IfSome o P → IfSome o Q
some_so P Q follows None holds = tt
some_so P Q follows (Some x) holds = follows x holds

-- ---- One controller changes, goes or comes

pub fit_changed : (s : State) (i : ℕ) (l after : Loaded) → slice_get s.loaded i ≡ Some l → IsTimedIn s.description after
    → IsWaiting after
    → ((m : MailAloft) → IsFor l m → IsFor after m) → AreFit s
    → AreFit (record s { loaded = slice_set s.loaded i after })
fit_changed s i l after there timed waiting aloft fit = record {
  timed = all_set (IsTimedIn s.description) s.loaded i after fit.timed timed;
  waiting = all_set IsWaiting s.loaded i after fit.waiting waiting;
  aloft = all_so (λ m. (m.serial < s.loads) × AllByRecursion (λ l. IsFor l m) s.loaded)
      (λ m. (m.serial < s.loads) × AllByRecursion (λ l. IsFor l m) (slice_set s.loaded i after))
      (λ m each. (
        each.0,
        all_set (λ l. IsFor l m) s.loaded i after each.1
            (aloft m (items.all_at (λ l. IsFor l m) s.loaded i l each.1 there)),
      )) s.mails fit.aloft;
}

pub fit_removed : (s : State) (i : ℕ) → AreFit s → AreFit (record s { loaded = remove s.loaded i })
fit_removed s i fit = record {
  timed = all_remove (IsTimedIn s.description) s.loaded i fit.timed;
  waiting = all_remove IsWaiting s.loaded i fit.waiting;
  aloft = all_so (λ m. (m.serial < s.loads) × AllByRecursion (λ l. IsFor l m) s.loaded)
      (λ m. (m.serial < s.loads) × AllByRecursion (λ l. IsFor l m) (remove s.loaded i))
      (λ m each. (each.0, all_remove (λ l. IsFor l m) s.loaded i each.1)) s.mails fit.aloft;
}

pub fit_pushed : (s : State) (blanks : Blanks) (l : Loaded) → l.serial ≡ s.loads → l.divisor ≡ None → l.mail ≡ None
    → AreFit s
    → AreFit (record s { blanks = blanks; loads = s.loads + 1; loaded = s.loaded ++ l ∷ [] })
fit_pushed s blanks l serial divisor mail fit = record {
  timed = all_push (IsTimedIn s.description) s.loaded l fit.timed (rw divisor (tt, tt));
  waiting = all_push IsWaiting s.loaded l fit.waiting (rw mail tt);
  aloft = all_so (λ m. (m.serial < s.loads) × AllByRecursion (λ l. IsFor l m) s.loaded)
      (λ m. (m.serial < s.loads + 1) × AllByRecursion (λ l. IsFor l m) (s.loaded ++ l ∷ []))
      (λ m each. (
        omega (arith, each.0),
        all_push (λ l. IsFor l m) s.loaded l each.1 (λ same. absurd (omega (arith, each.0, same, serial))),
      )) s.mails fit.aloft;
}

-- ---- It is configured

timed_in : (manager rate : ℕ) → 1 ≤ manager
    → (1 ≤ divisor manager rate) × (divisor manager rate * (SECOND_US / manager) ≤ SECOND_US)
timed_in manager rate some =
    elim (cases_Bool (rate == 0 || nat_le manager rate)) [
      | inl each ↦
          (let one : divisor manager rate ≡ 1 = rw each refl in
          let less = div-le_self SECOND_US manager in
          rw one (omega arith, omega (arith, less)))
      | inr slower ↦
          (let parts = none_of_both (rate == 0) (nat_le manager rate) slower in
          let many : divisor manager rate ≡ manager / rate = rw slower refl in
          let below : rate < manager = leb-false manager rate parts.1 in
          let positive : 1 ≤ rate = not_zero rate parts.0 in
          let fits : 1 * rate ≤ manager = omega (arith, below) in
          let most = mul-le-mul_right (SECOND_US / manager) (div-le_self manager rate) in
          let whole = mul-div-le SECOND_US manager in
          rw many (le-div 1 manager rate positive fits, omega (arith, most, whole)))
    ]
  where
    none_of_both : (a b : Bool) → (a || b) ≡ false → (a ≡ false) × (b ≡ false)
    none_of_both true b e = cc
    none_of_both false b e = (refl, e)

    not_zero : (n : ℕ) → (n == 0) ≡ false → 1 ≤ n
    not_zero zero e = absurd (true≢false (sym (eq-eqb 0 0 refl) ∙ e))
    not_zero (suc n) e = omega arith

pub timed_configured : (d : Description) (l : Loaded) (c : CtlDesc) → IsValid d
    → IsTimedIn d (record l { ctl = configured l.ctl c.params; divisor = Some (divisor d.update_rate l.rate) })
timed_configured d l c valid = timed_in d.update_rate l.rate ((described_rate_is_some d valid))

-- ---- It is sent mail

takes_there : (o : Option Params) (mail : Mail) → option_map_or (λ params. takes params mail) o false ≡ true
    → IsSomeAnd o (λ params. takes params mail ≡ true)
takes_there None mail e = cc
takes_there (Some params) mail e = e

marked_there : (o : Option RunData) (chained : Bool) → is_some o ≡ true → IfSome o (λ part. runs_chained part ≡ chained)
    → chained ≡ false → IsSomeAnd o (λ part. runs_chained part ≡ false)
marked_there None chained runs marked free = cc
marked_there (Some part) chained runs marked free = marked ∙ free

-- An active controller of a steady state that no active one commands can take mail that fits its parameters.
pub sent_fits : (s : State) (i : ℕ) (l : Loaded) (mail : Mail) → IsSteady s → slice_get s.loaded i ≡ Some l
    → is_active l ≡ true
    → is_chained_in s.description.controllers (active s) l.place ≡ false
    → option_map_or (λ params. takes params mail) l.ctl.params false ≡ true → CanTake l.ctl mail
sent_fits s i l mail steady there runs free fits =
    can_take l.ctl mail (record {
      configured = takes_there l.ctl.params mail fits;
      running = marked_there l.ctl.run (is_chained_in s.description.controllers (active s) l.place) runs
          (items.all_at _ s.loaded i l steady.in_order.marked there) free;
    })

-- ---- A commit

-- who comes or leaves has no mail any more
fit_committed_one : (s : State) (set stopped started : Places) (l : Loaded) → IsTimedIn s.description l → IsWaiting l
    → IsTimedIn s.description (committed s set stopped started l) × IsWaiting (committed s set stopped started l)
fit_committed_one s set stopped started l timed waiting = either (started l.place) (stopped l.place)
  where
    either : (b c : Bool)
        → IsTimedIn s.description (if b then coming s set l else (if c then leaving l else l))
        × IsWaiting (if b then coming s set l else (if c then leaving l else l))
    either true c = (timed, tt)
    either false true = (timed, tt)
    either false false = (timed, waiting)

all_both : {A : Type 0} (P Q : A → Type 0) (xs : List A) → AllByRecursion P xs → AllByRecursion Q xs
    → AllByRecursion (λ x. P x × Q x) xs
all_both P Q [] all also = tt
all_both P Q (x ∷ xs) all also = ((all.0, also.0), all_both P Q xs all.1 also.1)

pub fit_committed : (s : State) (set again : Places) → s.mails ≡ [] → AreFit s → AreFit (commit s set again)
unfolding commit
fit_committed s set again no_mail fit =
    let stopped = is_stopped (scene_of s) set again in
    let started = is_started (scene_of s) set again in
    let both = all_both (IsTimedIn s.description) IsWaiting s.loaded fit.timed fit.waiting in
    record {
      timed = all_map (IsTimedIn s.description) (committed s set stopped started) s.loaded
          (all_so (λ l. IsTimedIn s.description l × IsWaiting l)
          (λ l. IsTimedIn s.description (committed s set stopped started l))
          (λ l each. (fit_committed_one s set stopped started l each.0 each.1).0) s.loaded both);
      waiting = all_map IsWaiting (committed s set stopped started) s.loaded
          (all_so (λ l. IsTimedIn s.description l × IsWaiting l) (λ l. IsWaiting (committed s set stopped started l))
          (λ l each. (fit_committed_one s set stopped started l each.0 each.1).1) s.loaded both);
      aloft = rw no_mail tt;
    }

-- ---- A begin

module _ (s : State) where
  fit_sent_one : (l : Loaded) → IsTimedIn s.description l → IsWaiting l
      → IsTimedIn s.description (without_mail_off s l) × IsWaiting (without_mail_off s l)
  fit_sent_one l timed waiting = either (is_active l && is_due_now s l)
    where
      either : (b : Bool)
          → IsTimedIn s.description (if b then record l { mail = None } else l)
          × IsWaiting (if b then record l { mail = None } else l)
      either true = (timed, tt)
      either false = (timed, waiting)

  -- its serial and its data stay
  sent_keeps : (l : Loaded) → ((without_mail_off s l).serial ≡ l.serial) × ((without_mail_off s l).ctl ≡ l.ctl)
  sent_keeps l = either (is_active l && is_due_now s l)
    where
      either : (b : Bool)
          → ((if b then record l { mail = None } else l).serial ≡ l.serial)
          × ((if b then record l { mail = None } else l).ctl ≡ l.ctl)
      either true = (refl, refl)
      either false = (refl, refl)

  module _ (numbered : IsNumbered s) (fit : AreFit s) where
    -- the mail of one that goes aloft is for that one alone
    sent_for : (l : Loaded) → Contains s.loaded l → (mail : Mail) → (is_active l ≡ true) × CanTake l.ctl mail
        → AllByRecursion (λ other. IsFor other (record { serial = l.serial; mail = mail }))
        (map (without_mail_off s) s.loaded)
    sent_for l inside mail fits =
        all_map (λ other. IsFor other (record { serial = l.serial; mail = mail })) (without_mail_off s) s.loaded
        (all_each (λ other. IsFor (without_mail_off s other) (record { serial = l.serial; mail = mail })) s.loaded
        (λ other also same.
        let kept = sent_keeps other in
        let one : l ≡ other = one_of_serial s.loaded numbered.once l other inside also (same ∙ kept.0) in
        let ctl : (without_mail_off s other).ctl ≡ l.ctl = kept.1 ∙ ap (λ (m : Loaded). m.ctl) (sym one) in
        rw ctl fits))

    sent_of : (l : Loaded) → Contains s.loaded l
        → IfSome (mail_off s l)
        (λ m. (m.serial < s.loads) × AllByRecursion (λ other. IsFor other m) (map (without_mail_off s) s.loaded))
    sent_of l inside = either (is_active l && is_due_now s l) l.mail (all_at IsWaiting s.loaded fit.waiting l inside)
      where
        below : l.serial < s.loads
        below = all_at (λ (m : Loaded). m.serial < s.loads) s.loaded
            (all_map_back (λ n. n < s.loads) (λ (m : Loaded). m.serial) s.loaded numbered.below) l inside

        either : (b : Bool) (o : Option Mail) → IfSome o (λ mail. (is_active l ≡ true) × CanTake l.ctl mail)
            → IfSome (if b then option_map (λ mail. record { serial = l.serial; mail = mail }) o else None)
            (λ m. (m.serial < s.loads) × AllByRecursion (λ other. IsFor other m) (map (without_mail_off s) s.loaded))
        either false o fits = tt
        either true None fits = tt
        either true (Some mail) fits = (below, sent_for l inside mail fits)

  pub fit_begun : IsNumbered s → s.mails ≡ [] → AreFit s → AreFit (begun s)
  fit_begun numbered no_mail fit =
      let both = all_both (IsTimedIn s.description) IsWaiting s.loaded fit.timed fit.waiting in
      record {
        timed = all_map (IsTimedIn s.description) (without_mail_off s) s.loaded
            (all_so (λ l. IsTimedIn s.description l × IsWaiting l) (λ l. IsTimedIn s.description (without_mail_off s l))
            (λ l each. (fit_sent_one l each.0 each.1).0) s.loaded both);
        waiting = all_map IsWaiting (without_mail_off s) s.loaded
            (all_so (λ l. IsTimedIn s.description l × IsWaiting l) (λ l. IsWaiting (without_mail_off s l))
            (λ l each. (fit_sent_one l each.0 each.1).1) s.loaded both);
        aloft = all_found
            (λ m. (m.serial < s.loads) × AllByRecursion (λ other. IsFor other m) (map (without_mail_off s) s.loaded))
            (mail_off s) s.loaded (sent_of numbered fit);
      }

-- ---- The updates of a cycle

module _ (s : State) (values : List InterfaceValue) (serial : ℕ) (l : Loaded) where
  step_timed : IsTimedIn s.description l → IsTimedIn s.description (stepped_at s values serial l)
  step_timed timed = either (l.serial == serial)
    where
      either : (b : Bool) → IsTimedIn s.description (if b then record l { ctl = (step_of s values l).after } else l)
      either true = timed
      either false = timed

  step_waiting : IsWaiting l → IsWaiting (stepped_at s values serial l)
  step_waiting waiting = either (l.serial == serial)
    where
      runs : is_some (step_of s values l).after.run ≡ is_some l.ctl.run
      runs =
          sym (some_as_mapped runs_chained (step_of s values l).after.run)
          ∙ ap (λ (o : Option Bool). is_some o)
          (ctl_step_keeps_chained l.ctl (tick_of s l) (states_for values (described_of s l))
          (refs_for values (described_of s l)) (mail_for s l.serial))
          ∙ some_as_mapped runs_chained l.ctl.run

      either : (b : Bool) → IsWaiting (if b then record l { ctl = (step_of s values l).after } else l)
      either true =
          some_so (λ mail. (is_active l ≡ true) × CanTake l.ctl mail)
          (λ mail. (is_some (step_of s values l).after.run ≡ true) × CanTake (step_of s values l).after mail)
          (λ mail fits. (
            runs ∙ fits.0,
            still_takes l.ctl (tick_of s l) (states_for values (described_of s l)) (refs_for values (described_of s l))
                (mail_for s l.serial) mail fits.1,
          )) l.mail waiting
      either false = waiting

pub fit_landed : (s : State) → AreFit s → AreFit (landed s (cycle s))
unfolding cycle
fit_landed s fit =
    let begun : Updates =
    record { loaded = s.loaded; values = after_reads (component_is read_succeeds s) s.bodies s.values; ran = [] } in
    record {
      timed = updates_all s (IsTimedIn s.description) (step_timed s) begun (updated_in s) fit.timed;
      waiting = updates_all s IsWaiting (step_waiting s) begun (updated_in s) fit.waiting;
      aloft = tt;
    }

-- ---- What an update asks

-- Each controller is in time, and can take each mail that is aloft for it.
pub can_run : (s : State) → AreFit s
    → AllByRecursion
    (λ l. HasTime l
    × (IsInTime (period s.description) l × AllByRecursion (λ m. m.serial ≡ l.serial → CanTake l.ctl m.mail) s.mails))
    s.loaded
can_run s fit =
    all_each (λ l. HasTime l
    × (IsInTime (period s.description) l × AllByRecursion (λ m. m.serial ≡ l.serial → CanTake l.ctl m.mail) s.mails))
    s.loaded (λ l inside.
    let timed = all_at (IsTimedIn s.description) s.loaded fit.timed l inside in (
      timed.0,
      (
        timed.1,
        all_so (λ m. (m.serial < s.loads) × AllByRecursion (λ l. IsFor l m) s.loaded)
            (λ m. m.serial ≡ l.serial → CanTake l.ctl m.mail)
            (λ m each same. (all_at (λ other. IsFor other m) s.loaded each.1 l inside same).1) s.mails fit.aloft,
      ),
    ))
