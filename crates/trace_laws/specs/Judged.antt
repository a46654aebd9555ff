-- How a text is judged: its lines are replayed one after another, and each is to be the next of the caller that it
-- names.
use Rattle.std.specs.Prelude.{ℕ, suc, Bool, true, ◌&&◌, if◌then◌else◌, List, [], ◌∷◌, ◌++◌, length, nat_eq}
use Rattle.std.specs.Prelude.{Option, Some, None, is_none, Result, Ok, Err}
use Rattle.std.specs.Cmp.Lexicographic.{pointwise}
use Rattle.cm_document.specs.Lines.{raw_lines}
use Rattle.cm_document.specs.Reading.{◌>>=◌}
use Rattle.cm_document.specs.declared.document.Document.{Document}
use Rattle.cm_document.specs.declared.script.SessionText.{SessionText}
use Rattle.cm_model.specs.Sessions.{entries_by}
use Rattle.cm_model.specs.declared.blanks.Blanks.{Blanks}
use Rattle.cm_model.specs.declared.entry.Entry.{Entry}
use Rattle.trace_laws.specs.Next.{next_of_session, next_of_loop, entry_line, entry_named, expected_at}
use Rattle.trace_laws.specs.Told.{WrongLine}

-- the entry, if it prints as this line
abbrev pub if_it_prints : Document → List Entry → List ℕ → Option Entry → Option Entry
if_it_prints document history line None = None
if_it_prints document history line (Some e) =
    if pointwise nat_eq (entry_line document history e) line then Some e else None

-- The entry that a line tells after this history: the one that is to come there, if it prints so.
abbrev pub told_by : Document → Blanks → List Entry → List ℕ → Option Entry
told_by document blanks history line =
    if_it_prints document history line (entry_named document blanks history line)

-- The history that these lines tell one after another, behind this one, or the first of them that is wrong. The first
-- has this number.
abbrev pub replayed : Document → Blanks → List Entry → ℕ → List (List ℕ) → Result (List Entry) WrongLine
replayed document blanks history number [] = Ok history
replayed document blanks history number (line ∷ lines) =
    elim (told_by document blanks history line) [
      | None ↦ Err (record { line = number; expected = expected_at document blanks history line })
      | Some e ↦ replayed document blanks (history ++ e ∷ []) (suc number) lines
    ]

-- The history that these lines tell before one of them is wrong, behind this one.
abbrev pub told_before : Document → Blanks → List Entry → List (List ℕ) → List Entry
told_before document blanks history [] = history
told_before document blanks history (line ∷ lines) =
    elim (told_by document blanks history line) [
      | None ↦ history
      | Some e ↦ told_before document blanks (history ++ e ∷ []) lines
    ]

-- none of these sessions, of which the first has this number, has a call left
abbrev pub sessions_are_through : ℕ → List SessionText → List Entry → Bool
sessions_are_through who [] history = true
sessions_are_through who (session ∷ sessions) history =
    is_none (next_of_session session.lines (entries_by who history)) && sessions_are_through (suc who) sessions history

-- nobody has a call left after this history
abbrev pub is_through : Document → List Entry → Bool
is_through document history =
    sessions_are_through 0 document.script.sessions history
    && is_none (next_of_loop document.description.cycles (entries_by (length document.script.sessions) history))

-- a history is the whole one, or else one line more was to come behind so many
abbrev pub through_behind : Document → ℕ → List Entry → Result (Unit {0}) WrongLine
through_behind document lines history =
    if is_through document history then Ok tt else Err (record { line = suc lines; expected = [] })

-- A text is judged by its lines.
unfoldable pub judged : Document → Blanks → List ℕ → Result (Unit {0}) WrongLine
judged document blanks text =
    replayed document blanks [] 1 (raw_lines text) >>= λ history.
    through_behind document (length (raw_lines text)) history
