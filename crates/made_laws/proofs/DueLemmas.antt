-- What a step of the loop does, and that controllers are all updated of which each is due in every cycle.
use Rattle.std.proofs.Common.{◌≡◌, ℕ, ◌%◌, Bool, true, false, List, [], ◌∷◌, map, filter}
use Rattle.std.proofs.Common.{filter_map, Option, Some, None, option_map, refl, ap, ap₂, ◌∙◌, arith}
use Rattle.std.specs.Prelude.{◌&&◌, not, if◌then◌else◌}
use Rattle.std.specs.List.{AllByRecursion, cons_option}
use Rattle.std.specs.Option.{option_map_or}
use Rattle.std.proofs.lemmas.Bool.{eq-eqb}
use Rattle.cm_document.specs.declared.call.Call.{Call}
use Rattle.cm_model.specs.Components.{read_succeeds}
use Rattle.cm_model.specs.Cycle.{component_is, active_order, is_due_now, is_held_off, mail_off}
use Rattle.cm_model.specs.Cycle.{without_mail_off, with_updates, CycleResult, cycle_with, cycle}
use Rattle.cm_model.specs.Machine.{is_enabled, reply_of, answered, step}
use Rattle.cm_model.specs.Order.{is_due}
use Rattle.cm_model.specs.Scheduled.{Progress, Advanced, with_entry, next_call}
use Rattle.cm_model.specs.Scheduled.{after_call, stepped_on, called_on, advance, looped}
use Rattle.cm_model.specs.State.{State, Loaded, MailAloft, is_active}
use Rattle.cm_model.specs.Values.{after_reads}
use Rattle.cm_model.specs.declared.reply.Reply.{Reply}

-- ---- Steps

-- a call that is enabled is answered
pub step_when : (s : State) (who : ℕ) (call : Call) → is_enabled s who call ≡ true
    → step s who call ≡ option_map (answered s call) (reply_of s call)
unfolding step
step_when s who call enabled =
    ap (λ (b : Bool). if b then option_map (answered s call) (reply_of s call) else None) enabled

-- and one that is not is not
pub step_unless : (s : State) (who : ℕ) (call : Call) → is_enabled s who call ≡ false → step s who call ≡ None
unfolding step
step_unless s who call not_enabled =
    ap (λ (b : Bool). if b then option_map (answered s call) (reply_of s call) else None) not_enabled

-- the loop goes on by a step that it makes
pub looped_on : (call : Call) (p : Progress) (after : State) (r : Reply)
    → step p.state p.state.sessions call ≡ Some (after, r)
    → looped call p ≡ record p { state = after; made = with_entry p.made p.state.sessions call r }
unfolding looped
looped_on call p after r made =
    ap (λ (o : Option (State × Reply)). elim o [
      | None ↦ p
      | Some made ↦ record p { state = made.0; made = with_entry p.made p.state.sessions call made.1 }
    ]) made

-- a session goes on by a step that it makes
pub advance_on : (who : ℕ) (a : Advanced) (call : Call) (after : State) (r : Reply)
    → next_call a.session.ticket a.session.lines ≡ Some call
    → step a.state who call ≡ Some (after, r)
    → advance who a
    ≡ Some (record
    { state = after; made = with_entry a.made who call r; session = after_call a.session.ticket a.session.lines r })
unfolding advance
advance_on who a call after r next made = ap (called_on who a) next ∙ ap (stepped_on who a call) made

-- and stands where its next call is not enabled
pub advance_not : (who : ℕ) (a : Advanced) (call : Call) → next_call a.session.ticket a.session.lines ≡ Some call
    → step a.state who call ≡ None → advance who a ≡ None
unfolding advance
advance_not who a call next none = ap (called_on who a) next ∙ ap (stepped_on who a call) none

-- ---- Who is due

due_now : (s : State) (l : Loaded) → l.divisor ≡ Some 1 → is_due_now s l ≡ true
due_now s l each =
    let even : s.ended % 1 ≡ 0 = omega arith in
    ap (λ (o : Option ℕ). option_map_or (is_due s.ended) o false) each ∙ eq-eqb (s.ended % 1) 0 even

-- all are updated that are due in every cycle and not held off
all_updated : (s : State) (ls : List Loaded)
    → AllByRecursion (λ (l : Loaded). (l.divisor ≡ Some 1) × (is_held_off s l ≡ false)) ls
    → filter (λ l. is_due_now s l && not (is_held_off s l)) ls ≡ ls
all_updated s [] all = refl
all_updated s (l ∷ ls) all =
    ap (λ (b : Bool). if b && not (is_held_off s l) then l ∷ filter (λ l. is_due_now s l && not (is_held_off s l)) ls
    else filter (λ l. is_due_now s l && not (is_held_off s l)) ls) (due_now s l all.0.0)
    ∙ ap (λ (b : Bool). if not b then l ∷ filter (λ l. is_due_now s l && not (is_held_off s l)) ls
    else filter (λ l. is_due_now s l && not (is_held_off s l)) ls) all.0.1
    ∙ ap (λ (rest : List Loaded). l ∷ rest) (all_updated s ls all.1)

-- what the interfaces hold once the components were read, where all are updated
abbrev pub cycle_of_all : State → CycleResult
cycle_of_all s =
    cycle_with s
    (with_updates s
    (record { loaded = s.loaded; values = after_reads (component_is read_succeeds s) s.bodies s.values; ran = [] })
    (active_order s))

-- a cycle in which all are due that are active
pub cycle_is : (s : State)
    → AllByRecursion (λ (l : Loaded). (l.divisor ≡ Some 1) × (is_held_off s l ≡ false)) (active_order s)
    → cycle s ≡ cycle_of_all s
unfolding cycle
cycle_is s all =
    ap (λ (ls : List Loaded). cycle_with s
    (with_updates s
    (record { loaded = s.loaded; values = after_reads (component_is read_succeeds s) s.bodies s.values; ran = [] }) ls))
    (all_updated s (active_order s) all)

-- ---- Whose mail goes aloft

and_true : (b : Bool) → (b && true) ≡ b
and_true true = refl
and_true false = refl

mailed_off : (s : State) (l : Loaded) → l.divisor ≡ Some 1 → (is_active l && is_due_now s l) ≡ is_active l
mailed_off s l each = ap (λ (b : Bool). is_active l && b) (due_now s l each) ∙ and_true (is_active l)

-- the mail of a controller that is active
abbrev pub mail_of : Loaded → Option MailAloft
mail_of l = if is_active l then option_map (λ mail. record { serial = l.serial; mail = mail }) l.mail else None

-- and the controller without it
abbrev pub without_mail : Loaded → Loaded
without_mail l = if is_active l then record l { mail = None } else l

pub all_without : (s : State) (ls : List Loaded) → AllByRecursion (λ (l : Loaded). l.divisor ≡ Some 1) ls
    → map (without_mail_off s) ls ≡ map without_mail ls
all_without s [] all = refl
all_without s (l ∷ ls) all =
    ap₂ (λ (first : Loaded) (rest : List Loaded). first ∷ rest)
    (ap (λ (b : Bool). if b then record l { mail = None } else l) (mailed_off s l all.0)) (all_without s ls all.1)

pub all_off : (s : State) (ls : List Loaded) → AllByRecursion (λ (l : Loaded). l.divisor ≡ Some 1) ls
    → filter_map (mail_off s) ls ≡ filter_map mail_of ls
all_off s [] all = refl
all_off s (l ∷ ls) all =
    ap₂ (λ (first : Option MailAloft) (rest : List MailAloft). cons_option first rest)
    (ap (λ (b : Bool). if b then option_map (λ mail. record { serial = l.serial; mail = mail }) l.mail else None)
    (mailed_off s l all.0)) (all_off s ls all.1)
