-- Every scheduled history is legal.
use Rattle.std.proofs.Common.{◌≡◌, ℕ, zero, suc, ◌+◌, List, [], ◌∷◌, ◌++◌, length, Option, Some, None, refl, inl, inr}
use Rattle.std.specs.Prelude.{◌-◌, IsSomeAnd, slice_get}
use Rattle.cm_document.proofs.ReadingLemmas.{cases_Option}
use Rattle.cm_model.specs.State.{State, boot}
use Rattle.cm_model.specs.Machine.{step, LegalFrom, IsLegal, state_after}
use Rattle.cm_model.specs.Scheduled.{Session, Advanced, Progress, with_entry, settle, settle_from, settle_all}
use Rattle.cm_model.specs.Scheduled.{looped, with_cycle, cycles, cycles_from, finish, start, scheduled, advance}
use Rattle.cm_model.specs.Scheduled.{with_advance, advanced_once, turned, turns, landed, scheduled_in_steps}
use Rattle.cm_model.proofs.AdvanceLemmas.{advance-Made, settle-keeps}
use Rattle.cm_document.specs.declared.call.Call.{Call}
use Rattle.cm_document.specs.declared.call.Call.TheVariants.{Begin, End, Close}
use Rattle.cm_model.specs.declared.entry.Entry.{Entry}
use Rattle.cm_model.specs.declared.reply.Reply.{Reply}
use Rattle.cm_document.specs.declared.document.Document.{Document}
use Rattle.cm_document.specs.declared.script.Turn.{Turn}
use Rattle.cm_document.specs.declared.script.Turn.TheVariants as turn
use Rattle.cm_model.specs.declared.blanks.Blanks.{Blanks}

-- what a legal entry says of its step
pub step_of : (o : Option (State × Reply)) (r : Reply) (P : State → Type 0)
    → IsSomeAnd o (λ made. (made.1 ≡ r) × P made.0)
    → (s : State) × (o ≡ Some (s, r)) × P s
step_of None r P holds = absurd holds
step_of (Some made) r P holds = (made.0, rw holds.0 refl, holds.1)

-- a legal history that leads from one state to another
pub record Leads (from : State) (made : List Entry) (to : State) : Type 0 where
  pub legal : LegalFrom from made
  pub ends : state_after from made ≡ to

-- nothing made leads nowhere
Leads-nil : (s : State) → Leads s [] s
Leads-nil s = record { legal = tt; ends = refl }

-- a step before a legal history
Leads-cons : (from mid to : State) (e : Entry) (made : List Entry) → step from e.who e.call ≡ Some (mid, e.reply)
    → Leads mid made to → Leads from (e ∷ made) to
Leads-cons from mid to e made stepped rest =
    record { legal = rw (stepped, LegalFrom) (refl, rest.legal); ends = rw (stepped, state_after) rest.ends }

-- one step more at the end
pub Leads-step : (made : List Entry) (from s : State) (who : ℕ) (call : Call) (next : State) (r : Reply)
    → Leads from made s → step s who call ≡ Some (next, r) → Leads from (with_entry made who call r) next
Leads-step [] from s who call next r leads stepped =
    Leads-cons from next next (record { who = who; call = call; reply = r }) [] (rw leads.ends stepped) (Leads-nil next)
Leads-step (e ∷ made) from s who call next r leads stepped =
    let first = step_of (step from e.who e.call) e.reply (λ each. LegalFrom each made) leads.legal in
    let rest : Leads first.0 made s = record { legal = first.2; ends = rw (first.1, state_after) at leads.ends } in
    Leads-cons from first.0 next e (with_entry made who call r) first.1
    (Leads-step made first.0 s who call next r rest stepped)

-- ---- The schedule leads on

-- a progress whose history leads from boot to its state
abbrev LeadsOn : State → Progress → Type 0
LeadsOn from progress = Leads from progress.made progress.state

settle-Leads : (who : ℕ) (from : State) (a : Advanced) → Leads from a.made a.state
    → Leads from (settle who a).made (settle who a).state
settle-Leads who from a leads =
    settle-keeps (λ (each : Advanced). Leads from each.made each.state) who
    (λ earlier after holds one. rw one.made
    (Leads-step earlier.made from earlier.state who one.call after.state one.reply holds one.stepped)) a leads

settle_from-Leads : (who : ℕ) (sessions : List Session) (from s : State) (made : List Entry) (settled : List Session)
    → Leads from made s
    → LeadsOn from (settle_from who sessions s made settled)
settle_from-Leads who [] from s made settled leads = leads
settle_from-Leads who (session ∷ later) from s made settled leads =
    let a = settle who (record { state = s; made = made; session = session }) in
    settle_from-Leads (who + 1) later from a.state a.made (settled ++ a.session ∷ [])
    (settle-Leads who from (record { state = s; made = made; session = session }) leads)

settle_all-Leads : (from : State) (progress : Progress) → LeadsOn from progress → LeadsOn from (settle_all progress)
unfolding settle_all
settle_all-Leads from progress leads = settle_from-Leads 0 progress.sessions from progress.state progress.made [] leads

looped-Leads : (call : Call) (from : State) (progress : Progress) → LeadsOn from progress
    → LeadsOn from (looped call progress)
unfolding looped
looped-Leads call from progress leads =
    elim (cases_Option (step progress.state progress.state.sessions call)) [
      | inl none ↦ rw (none, looped) leads
      | inr (reached, some) ↦ rw (some, looped)
          (Leads-step progress.made from progress.state progress.state.sessions call reached.0 reached.1 leads some)
    ]

with_cycle-Leads : (n : ℕ) (from : State) (progress : Progress) → LeadsOn from progress
    → LeadsOn from (with_cycle n progress)
unfolding with_cycle
with_cycle-Leads n from progress leads =
    looped-Leads (End n) from _ (looped-Leads (Begin n) from _ (settle_all-Leads from progress leads))

cycles-Leads : (n : ℕ) (from : State) (progress : Progress) → LeadsOn from progress → LeadsOn from (cycles n progress)
cycles-Leads zero from progress leads = leads
cycles-Leads (suc n) from progress leads =
    with_cycle-Leads n from (cycles n progress) (cycles-Leads n from progress leads)

finish-Leads : (from : State) (progress : Progress) → LeadsOn from progress → LeadsOn from (finish progress)
unfolding finish
finish-Leads from progress leads =
    settle_all-Leads from _ (looped-Leads Close from _ (settle_all-Leads from progress leads))

-- a scheduled history is legal
pub scheduled-IsLegal : (document : Document) (blanks : Blanks)
    → IsLegal document.description blanks (length document.script.sessions) (scheduled document blanks)
unfolding scheduled start
scheduled-IsLegal document blanks =
    (finish-Leads _ _
    (cycles-Leads document.description.cycles _ _
    (Leads-nil (boot document.description blanks (length document.script.sessions))))).legal

-- ---- The turns of a schedule lead on

with_advance-Leads : (who : ℕ) (from : State) (progress : Progress) (x : Session) (o : Option Advanced)
    → advance who (record { state = progress.state; made = progress.made; session = x }) ≡ o → LeadsOn from progress
    → LeadsOn from (with_advance who progress o)
with_advance-Leads who from progress x None made leads = leads
with_advance-Leads who from progress x (Some a) made leads =
    let one = advance-Made who (record { state = progress.state; made = progress.made; session = x }) a made in
    rw one.made (Leads-step progress.made from progress.state who one.call a.state one.reply leads one.stepped)

advanced_once-Leads : (who : ℕ) (from : State) (progress : Progress) (o : Option Session) → LeadsOn from progress
    → LeadsOn from (advanced_once who progress o)
advanced_once-Leads who from progress None leads = leads
advanced_once-Leads who from progress (Some x) leads = with_advance-Leads who from progress x _ refl leads

turned-Leads : (t : Turn) (from : State) (progress : Progress) → LeadsOn from progress
    → LeadsOn from (turned t progress)
turned-Leads (turn.Step who) from progress leads =
    advanced_once-Leads who from progress (slice_get progress.sessions who) leads
turned-Leads turn.Begin from progress leads = looped-Leads (Begin progress.state.ended) from progress leads
turned-Leads turn.End from progress leads = looped-Leads (End progress.state.ended) from progress leads

turns-Leads : (ts : List Turn) (from : State) (progress : Progress) → LeadsOn from progress
    → LeadsOn from (turns ts progress)
turns-Leads [] from progress leads = leads
turns-Leads (t ∷ ts) from progress leads = turns-Leads ts from (turned t progress) (turned-Leads t from progress leads)

cycles_from-Leads : (first n : ℕ) (from : State) (progress : Progress) → LeadsOn from progress
    → LeadsOn from (cycles_from first n progress)
cycles_from-Leads first zero from progress leads = leads
cycles_from-Leads first (suc n) from progress leads =
    with_cycle-Leads (first + n) from (cycles_from first n progress) (cycles_from-Leads first n from progress leads)

-- so the history of the job `steps` is legal
pub steps-IsLegal : (document : Document) (blanks : Blanks)
    → IsLegal document.description blanks (length document.script.sessions) (scheduled_in_steps document blanks)
unfolding scheduled_in_steps start
steps-IsLegal document blanks =
    let first = start document blanks in
    let from = boot document.description blanks (length document.script.sessions) in
    let after = landed (turns document.script.schedule first) in
    let turned_so : LeadsOn from after =
    looped-Leads (End _) from _ (turns-Leads document.script.schedule from first (Leads-nil from)) in
    (finish-Leads from _
    (cycles_from-Leads after.state.ended (document.description.cycles - after.state.ended) from after turned_so)).legal
