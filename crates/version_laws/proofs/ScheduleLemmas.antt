-- A schedule makes the same history of a document of another version.
use Rattle.std.proofs.Common.{◌≡◌, ℕ, zero, suc, ◌+◌, List, [], ◌∷◌, ◌++◌, Option, Some, None, refl, ap, ◌∙◌}
use Rattle.std.specs.Prelude.{◌-◌, option_map, slice_get}
use Rattle.cm_document.specs.declared.call.Call.{Call}
use Rattle.cm_document.specs.declared.call.Call.TheVariants.{Begin, End, Close}
use Rattle.cm_document.specs.declared.document.Document.{Document}
use Rattle.cm_document.specs.declared.script.Turn.{Turn}
use Rattle.cm_document.specs.declared.script.Turn.TheVariants as turn
use Rattle.cm_model.specs.Machine.{step}
use Rattle.cm_model.specs.Scheduled.{Session, Advanced, Progress, with_entry, next_call, stepped_on, called_on}
use Rattle.cm_model.specs.Scheduled.{advance, advances, most_entries, settle, settle_from, settle_all, looped}
use Rattle.cm_model.specs.Scheduled.{with_cycle, cycles, cycles_from, finish, start, scheduled, with_advance}
use Rattle.cm_model.specs.Scheduled.{advanced_once, turned, turns, landed, cycles_left, scheduled_in_steps}
use Rattle.cm_model.specs.State.{State}
use Rattle.cm_model.specs.declared.blanks.Blanks.{Blanks}
use Rattle.cm_model.specs.declared.entry.Entry.{Entry}
use Rattle.cm_model.specs.declared.reply.Reply.{Reply}
use Rattle.version_laws.specs.Versions.{document_of_version}
use Rattle.version_laws.proofs.StepLemmas.{state_of, made_of, step-same}

-- how far a session has come, but for the version
abbrev advanced_of : ℕ → Advanced → Advanced
advanced_of v a = record a { state = state_of v a.state }

-- how far a run has come, but for the version
abbrev progress_of : ℕ → Progress → Progress
progress_of v progress = record progress { state = state_of v progress.state }

-- ---- One session

stepped_on-same : (v who : ℕ) (a : Advanced) (call : Call) (o : Option (State × Reply))
    → stepped_on who (advanced_of v a) call (option_map (made_of v) o)
    ≡ option_map (advanced_of v) (stepped_on who a call o)
stepped_on-same v who a call None = refl
stepped_on-same v who a call (Some made) = refl

called_on-same : (v who : ℕ) (a : Advanced) (o : Option Call)
    → called_on who (advanced_of v a) o ≡ option_map (advanced_of v) (called_on who a o)
called_on-same v who a None = refl
called_on-same v who a (Some call) =
    ap (stepped_on who (advanced_of v a) call) (step-same v a.state who call)
    ∙ stepped_on-same v who a call (step a.state who call)

advance-same : (v who : ℕ) (a : Advanced) → advance who (advanced_of v a) ≡ option_map (advanced_of v) (advance who a)
unfolding advance
advance-same v who a = called_on-same v who a (next_call a.session.ticket a.session.lines)

-- where it stops it stops, and where it goes on it goes on alike
goes_on : (v k who : ℕ) (a : Advanced) (o : Option Advanced)
    → ((next : Advanced) → advances k who (advanced_of v next) ≡ advanced_of v (advances k who next))
    → elim (option_map (advanced_of v) o) [ None ↦ advanced_of v a | Some next ↦ advances k who next ]
    ≡ advanced_of v (elim o [ None ↦ a | Some next ↦ advances k who next ])
goes_on v k who a None later = refl
goes_on v k who a (Some next) later = later next

advances-same : (v k who : ℕ) (a : Advanced) → advances k who (advanced_of v a) ≡ advanced_of v (advances k who a)
advances-same v zero who a = refl
advances-same v (suc k) who a =
    ap (λ (o : Option Advanced). elim o [ None ↦ advanced_of v a | Some next ↦ advances k who next ])
    (advance-same v who a)
    ∙ goes_on v k who a (advance who a) (advances-same v k who)

settle-same : (v who : ℕ) (a : Advanced) → settle who (advanced_of v a) ≡ advanced_of v (settle who a)
unfolding settle
settle-same v who a = advances-same v (most_entries a.session) who a

-- ---- All sessions

settle_from-same : (v who : ℕ) (sessions : List Session) (s : State) (made : List Entry) (settled : List Session)
    → settle_from who sessions (state_of v s) made settled ≡ progress_of v (settle_from who sessions s made settled)
settle_from-same v who [] s made settled = refl
settle_from-same v who (session ∷ later) s made settled =
    let a = settle who (record { state = s; made = made; session = session }) in
    ap (λ (each : Advanced). settle_from (who + 1) later each.state each.made (settled ++ each.session ∷ []))
    (settle-same v who (record { state = s; made = made; session = session }))
    ∙ settle_from-same v (who + 1) later a.state a.made (settled ++ a.session ∷ [])

settle_all-same : (v : ℕ) (progress : Progress)
    → settle_all (progress_of v progress) ≡ progress_of v (settle_all progress)
unfolding settle_all
settle_all-same v progress = settle_from-same v 0 progress.sessions progress.state progress.made []

-- ---- The loop

made_alike : (v : ℕ) (call : Call) (progress : Progress) (o : Option (State × Reply))
    → elim (option_map (made_of v) o) [
      | None ↦ progress_of v progress
      | Some made ↦ record (progress_of v progress)
          { state = made.0; made = with_entry progress.made progress.state.sessions call made.1 }
    ]
    ≡ progress_of v (elim o [
      | None ↦ progress
      | Some made ↦ record progress
          { state = made.0; made = with_entry progress.made progress.state.sessions call made.1 }
    ])
made_alike v call progress None = refl
made_alike v call progress (Some made) = refl

looped-same : (v : ℕ) (call : Call) (progress : Progress)
    → looped call (progress_of v progress) ≡ progress_of v (looped call progress)
unfolding looped
looped-same v call progress =
    ap (λ (o : Option (State × Reply)). elim o [
      | None ↦ progress_of v progress
      | Some made ↦ record (progress_of v progress)
          { state = made.0; made = with_entry progress.made progress.state.sessions call made.1 }
    ]) (step-same v progress.state progress.state.sessions call)
    ∙ made_alike v call progress (step progress.state progress.state.sessions call)

with_cycle-same : (v n : ℕ) (progress : Progress)
    → with_cycle n (progress_of v progress) ≡ progress_of v (with_cycle n progress)
unfolding with_cycle
with_cycle-same v n progress =
    ap (λ (each : Progress). looped (End n) (looped (Begin n) each)) (settle_all-same v progress)
    ∙ (ap (looped (End n)) (looped-same v (Begin n) (settle_all progress))
    ∙ looped-same v (End n) (looped (Begin n) (settle_all progress)))

cycles-same : (v n : ℕ) (progress : Progress) → cycles n (progress_of v progress) ≡ progress_of v (cycles n progress)
cycles-same v zero progress = refl
cycles-same v (suc n) progress = ap (with_cycle n) (cycles-same v n progress) ∙ with_cycle-same v n (cycles n progress)

cycles_from-same : (v first n : ℕ) (progress : Progress)
    → cycles_from first n (progress_of v progress) ≡ progress_of v (cycles_from first n progress)
cycles_from-same v first zero progress = refl
cycles_from-same v first (suc n) progress =
    ap (with_cycle (first + n)) (cycles_from-same v first n progress)
    ∙ with_cycle-same v (first + n) (cycles_from first n progress)

finish-same : (v : ℕ) (progress : Progress) → finish (progress_of v progress) ≡ progress_of v (finish progress)
unfolding finish
finish-same v progress =
    ap (λ (each : Progress). settle_all (looped Close each)) (settle_all-same v progress)
    ∙ (ap settle_all (looped-same v Close (settle_all progress))
    ∙ settle_all-same v (looped Close (settle_all progress)))

-- ---- The histories of a document

start-same : (v : ℕ) (document : Document) (blanks : Blanks)
    → start (document_of_version v document) blanks ≡ progress_of v (start document blanks)
unfolding start
start-same v document blanks = refl

-- the job `run` makes the same history
pub scheduled_alike : (document : Document) (version : ℕ) (blanks : Blanks)
    → scheduled (document_of_version version document) blanks ≡ scheduled document blanks
unfolding scheduled
scheduled_alike document version blanks =
    let count = document.description.cycles in
    let first = start document blanks in
    ap (λ (each : Progress). (finish (cycles count each)).made) (start-same version document blanks)
    ∙ (ap (λ (each : Progress). (finish each).made) (cycles-same version count first)
    ∙ ap (λ (each : Progress). each.made) (finish-same version (cycles count first)))

-- ---- The turns of a schedule

with_advance-same : (v who : ℕ) (progress : Progress) (o : Option Advanced)
    → with_advance who (progress_of v progress) (option_map (advanced_of v) o)
    ≡ progress_of v (with_advance who progress o)
with_advance-same v who progress None = refl
with_advance-same v who progress (Some a) = refl

advanced_once-same : (v who : ℕ) (progress : Progress) (o : Option Session)
    → advanced_once who (progress_of v progress) o ≡ progress_of v (advanced_once who progress o)
advanced_once-same v who progress None = refl
advanced_once-same v who progress (Some x) =
    let a : Advanced = record { state = progress.state; made = progress.made; session = x } in
    ap (with_advance who (progress_of v progress)) (advance-same v who a)
    ∙ with_advance-same v who progress (advance who a)

turned-same : (v : ℕ) (t : Turn) (progress : Progress)
    → turned t (progress_of v progress) ≡ progress_of v (turned t progress)
turned-same v (turn.Step who) progress = advanced_once-same v who progress (slice_get progress.sessions who)
turned-same v turn.Begin progress = looped-same v (Begin progress.state.ended) progress
turned-same v turn.End progress = looped-same v (End progress.state.ended) progress

turns-same : (v : ℕ) (ts : List Turn) (progress : Progress)
    → turns ts (progress_of v progress) ≡ progress_of v (turns ts progress)
turns-same v [] progress = refl
turns-same v (t ∷ ts) progress = ap (turns ts) (turned-same v t progress) ∙ turns-same v ts (turned t progress)

landed-same : (v : ℕ) (progress : Progress) → landed (progress_of v progress) ≡ progress_of v (landed progress)
landed-same v progress = looped-same v (End progress.state.ended) progress

cycles_left-same : (v count : ℕ) (progress : Progress)
    → cycles_left count (progress_of v progress) ≡ progress_of v (cycles_left count progress)
cycles_left-same v count progress = cycles_from-same v progress.state.ended (count - progress.state.ended) progress

-- the job `steps` makes the same history
pub stepped_alike : (document : Document) (version : ℕ) (blanks : Blanks)
    → scheduled_in_steps (document_of_version version document) blanks ≡ scheduled_in_steps document blanks
unfolding scheduled_in_steps
stepped_alike document version blanks =
    let count = document.description.cycles in
    let ts = document.script.schedule in
    let first = start document blanks in
    ap (λ (each : Progress). (finish (cycles_left count (landed (turns ts each)))).made)
    (start-same version document blanks)
    ∙ (ap (λ (each : Progress). (finish (cycles_left count (landed each))).made) (turns-same version ts first)
    ∙ (ap (λ (each : Progress). (finish (cycles_left count each)).made) (landed-same version (turns ts first))
    ∙ (ap (λ (each : Progress). (finish each).made) (cycles_left-same version count (landed (turns ts first)))
    ∙ ap (λ (each : Progress). each.made) (finish-same version (cycles_left count (landed (turns ts first)))))))
