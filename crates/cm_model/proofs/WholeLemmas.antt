-- A history that is scheduled for a script is whole: each session's entries follow its lines, whatever the others do
use Rattle.std.proofs.Common.{◌≡◌, ℕ, ◌+◌, List, [], ◌∷◌, length, map, Some}
use Rattle.std.proofs.Common.{None, true, false, refl, ◌∙◌, inl, inr, arith}
use Rattle.std.specs.Prelude.{◌-◌, slice_get}
use Rattle.std.specs.List.{AllByRecursion}
use Rattle.std.proofs.lemmas.List.{length-map}
use Rattle.std.proofs.lemmas.Option.{slice_get-map}
use Rattle.cm_document.proofs.ReadingLemmas.{cases_Option}
use Rattle.cm_document.specs.ScriptLaws.{IsSession, MeetsRules}
use Rattle.cm_document.specs.declared.call.Call.{Call}
use Rattle.cm_document.specs.declared.document.Document.{Document}
use Rattle.cm_document.specs.declared.script.SessionText.{SessionText}
use Rattle.cm_model.specs.Scheduled.{Progress, cycles, finish, start, scheduled}
use Rattle.cm_model.specs.Scheduled.{turns, landed, cycles_left, scheduled_in_steps}
use Rattle.cm_model.specs.Sessions.{entries_by, Follows, loop_calls, IsWhole}
use Rattle.cm_model.specs.State.{State, boot}
use Rattle.cm_model.specs.declared.blanks.Blanks.{Blanks}
use Rattle.cm_model.proofs.ComesLemmas.{none_comes}
use Rattle.cm_model.proofs.FollowedLemmas.{AllAre, Come, follows_at}
use Rattle.cm_model.proofs.WholeRunLemmas.{Runs, Settled, Underway, cycles-Runs, cycles_left-Runs}
use Rattle.cm_model.proofs.WholeRunLemmas.{finish-Settled, landed-Home, turns-Underway}

-- ---- A document

abbrev lines_of : List SessionText → List (List Call)
lines_of sessions = map (λ session. session.lines) sessions

-- at first no session has made a line
all_at_first : (s : State) (first : ℕ) (sessions : List SessionText) → AllByRecursion IsSession sessions
    → AllAre (Come [] s) first (lines_of sessions)
    (map (λ (session : SessionText). record { lines = session.lines; ticket = None }) sessions)
all_at_first s first [] rules = tt
all_at_first s first (session ∷ sessions) rules = (
  record { comes = none_comes session.lines; written = rules.0.written; given = tt },
  all_at_first s (first + 1) sessions rules.1,
)

-- a run that was made to its end is whole for its document
finished-IsWhole : (document : Document)
    (size : length (lines_of document.script.sessions) ≡ length document.script.sessions) (progress : Progress)
    → Settled (lines_of document.script.sessions) (length document.script.sessions) document.description.cycles size
    (record { ended = document.description.cycles; aloft = false; closed = true })
    (loop_calls document.description.cycles) progress
    → IsWhole document progress.made
finished-IsWhole document size progress last =
    let texts = document.script.sessions in
    record {
      sessions = λ k. elim (cases_Option (slice_get texts k)) [
        | inl none ↦ rw none tt
        | inr (session, found) ↦
            let lines : slice_get (lines_of texts) k ≡ Some session.lines =
            slice_get-map (λ (each : SessionText). each.lines) texts k ∙ rw found refl in
            let from_zero : 0 + k ≡ k = omega arith in
            let follows : Follows session.lines (entries_by k progress.made) =
            rw from_zero at (follows_at progress.made progress.state k 0 (lines_of texts) progress.sessions
            session.lines (last.through refl) last.runs.sessions lines) in
            rw found follows
      ];
      cycles = last.runs.made;
      nobody_else = last.runs.within;
    }

-- as many scripts as sessions
lines_counted : (texts : List SessionText) → length (lines_of texts) ≡ length texts
lines_counted texts = length-map texts (λ (session : SessionText). session.lines)

-- at first the loop has made no call
start-Runs : (document : Document) (blanks : Blanks)
    (size : length (lines_of document.script.sessions) ≡ length document.script.sessions) → MeetsRules document.script
    → Runs (lines_of document.script.sessions) (length document.script.sessions) document.description.cycles size
    (record { ended = 0; aloft = false; closed = false }) [] (start document blanks)
unfolding start
start-Runs document blanks size rules = record {
  sessions = all_at_first (boot document.description blanks (length document.script.sessions)) 0
      document.script.sessions rules.sessions;
  made = refl;
  within = tt;
  known = refl;
  described = refl;
  ended = refl;
  aloft = refl;
  closed = refl;
  decided = λ wrong. cc;
}

-- what is scheduled for a script that meets the rules is whole
pub scheduled-IsWhole : (document : Document) (blanks : Blanks) → MeetsRules document.script
    → IsWhole document (scheduled document blanks)
unfolding scheduled
scheduled-IsWhole document blanks rules =
    let scripts = lines_of document.script.sessions in
    let count = length document.script.sessions in
    let total = document.description.cycles in
    let size = lines_counted document.script.sessions in
    let first = start document blanks in
    finished-IsWhole document size (finish (cycles total first))
    (finish-Settled scripts count total size (cycles total first)
    (cycles-Runs scripts count total size total first (omega arith) (start-Runs document blanks size rules)))

-- and so is what its schedule makes of it
pub steps-IsWhole : (document : Document) (blanks : Blanks) → MeetsRules document.script
    → IsWhole document (scheduled_in_steps document blanks)
unfolding scheduled_in_steps
steps-IsWhole document blanks rules =
    let scripts = lines_of document.script.sessions in
    let count = length document.script.sessions in
    let total = document.description.cycles in
    let size = lines_counted document.script.sessions in
    let first = start document blanks in
    let under : Underway scripts count total size first =
    record {
      n = 0;
      aloft = false;
      few = omega arith;
      left = λ wrong. cc;
      runs =
          start-Runs document blanks size rules;
    } in
    let turned_so = turns-Underway scripts count total size document.script.schedule first rules.turns under in
    let home = landed-Home scripts count total size (turns document.script.schedule first) turned_so in
    let left = cycles_left total (landed (turns document.script.schedule first)) in
    finished-IsWhole document size (finish left)
    (finish-Settled scripts count total size left (cycles_left-Runs scripts count total size _ home))
