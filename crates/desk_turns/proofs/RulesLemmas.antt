-- What the rules of scripts say of sessions.
use Rattle.std.proofs.Common.{ℕ, ◌+◌, ◌<◌, ◌≤◌, ◌^◌, List, [], ◌∷◌, length, arith}
use Rattle.std.specs.Prelude.{sum_by}
use Rattle.std.specs.List.{All, AllByRecursion}
use Rattle.std.proofs.lemmas.List.Elements.{All-from_recursion}
use Rattle.std.proofs.lemmas.List.Sums.{sum_by-cons}
use Rattle.cm_document.specs.ScriptLaws.{CanBeWritten, IsSession, MeetsRules}
use Rattle.cm_document.specs.declared.call.Call.{Call}
use Rattle.cm_document.specs.declared.call.Call.TheVariants.{Told, Begin, End, Close}
use Rattle.cm_document.specs.declared.limits.TheConstants.{MOST_CALLS}
use Rattle.cm_document.specs.declared.script.Script.{Script}
use Rattle.cm_document.specs.declared.script.SessionText.{SessionText}
use Rattle.console_session.specs.Sessions.{IsLine, AreLines}

-- the number of sessions of a script that meets the rules fits
pub rules_few : (s : Script) → MeetsRules s → length s.sessions < 2 ^ 32
rules_few s rules = omega (arith, rules.few_sessions)

-- a line that a script can say is a session's
written_line : (call : Call) → CanBeWritten call → IsLine call
written_line (Told ticket) written = absurd written
written_line (Begin cycle) written = absurd written
written_line (End cycle) written = absurd written
written_line Close written = absurd written
written_line _ written = tt

written_lines : (lines : List Call) → AllByRecursion CanBeWritten lines → AllByRecursion IsLine lines
written_lines [] written = tt
written_lines (call ∷ lines) written = (written_line call written.0, written_lines lines written.1)

-- the lines of each session can be numbered, where there are few in all
sessions_lines : (sessions : List SessionText) → AllByRecursion IsSession sessions
    → sum_by (λ t. length t.lines) sessions ≤ MOST_CALLS → AllByRecursion (λ t. AreLines t.lines) sessions
sessions_lines [] rules few = tt
sessions_lines (t ∷ sessions) rules few =
    let all = sum_by-cons (λ (u : SessionText). length u.lines) t sessions in (
      record { each = written_lines t.lines rules.0.written; few = omega (arith, few, all) },
      sessions_lines sessions rules.1 (omega (arith, few, all)),
    )

-- so each session of a script that meets the rules has lines that it can make
pub rules_lines : (s : Script) → MeetsRules s → All (λ t. AreLines t.lines) s.sessions
rules_lines s rules =
    All-from_recursion (λ (t : SessionText). AreLines t.lines) s.sessions
    (sessions_lines s.sessions rules.sessions (omega (arith, rules.few_calls)))
