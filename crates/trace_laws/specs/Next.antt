-- What comes next for a caller: its next call, and the line that this prints.
use Rattle.std.specs.Prelude.{ℕ, ◌==◌, ◌||◌, if◌then◌else◌, List, [], ◌∷◌, ◌++◌, length, drop, slice_get, codes}
use Rattle.std.specs.Prelude.{position, Option, Some, None, option_map}
use Rattle.std.specs.Option.{option_map_or}
use Rattle.iface_names.specs.Names.{same_name}
use Rattle.cm_document.specs.Lines.{without_last}
use Rattle.cm_document.specs.declared.call.Call.{Call}
use Rattle.cm_document.specs.declared.document.Document.{Document}
use Rattle.cm_document.specs.declared.script.SessionText.{SessionText}
use Rattle.cm_model.specs.Machine.{step, state_after}
use Rattle.cm_model.specs.Scheduled.{Session, next_call, ticket_in}
use Rattle.cm_model.specs.Sessions.{asked, is_told, entries_by, loop_calls}
use Rattle.cm_model.specs.State.{State, boot}
use Rattle.cm_model.specs.Trace.{line_text, names_in}
use Rattle.cm_model.specs.declared.blanks.Blanks.{Blanks}
use Rattle.cm_model.specs.declared.entry.Entry.{Entry}

-- ---- The next call

-- the ticket that an entry leaves its session to be told of
abbrev pub ticket_given : Entry → Option ℕ
ticket_given e = if is_told e.call then None else ticket_in e.reply

-- the ticket that is left after some entries, which began with this one: that of the last entry
abbrev pub ticket_after : Option ℕ → List Entry → Option ℕ
ticket_after ticket [] = ticket
ticket_after ticket (e ∷ es) = ticket_after (ticket_given e) es

-- where a session of these lines stands after these entries of it
abbrev pub stands_after : List Call → List Entry → Session
stands_after lines entries = record { lines = drop (length (asked entries)) lines; ticket = ticket_after None entries }

-- A session's next call: the Told of its ticket, else its next line.
abbrev pub next_of_session : List Call → List Entry → Option Call
next_of_session lines entries = next_call (stands_after lines entries).ticket (stands_after lines entries).lines

-- The loop's next call in a run of so many cycles.
abbrev pub next_of_loop : ℕ → List Entry → Option Call
next_of_loop cycles entries = slice_get (loop_calls cycles) (length entries)

-- the next call of the loop, if it is asked for the number behind the sessions
abbrev pub next_past : Document → List Entry → ℕ → Option Call
next_past document history who =
    if who == length document.script.sessions then next_of_loop document.description.cycles (entries_by who history)
    else None

-- the next call of the session that stands at this number, or else of the loop
abbrev pub next_by : Document → List Entry → ℕ → Option SessionText → Option Call
next_by document history who None = next_past document history who
next_by document history who (Some session) = next_of_session session.lines (entries_by who history)

-- The call that a caller makes next after this history, if it has one left.
abbrev pub next_of : Document → List Entry → ℕ → Option Call
next_of document history who = next_by document history who (slice_get document.script.sessions who)

-- ---- The next entry

-- the state after a history of a document's run over these blanks
abbrev pub state_of : Document → Blanks → List Entry → State
state_of document blanks history =
    state_after (boot document.description blanks (length document.script.sessions)) history

-- the entry of this call, if it is enabled
abbrev pub entry_of : Document → Blanks → List Entry → ℕ → Option Call → Option Entry
entry_of document blanks history who None = None
entry_of document blanks history who (Some call) =
    option_map (λ made. record { who = who; call = call; reply = made.1 })
    (step (state_of document blanks history) who call)

-- The entry that a caller makes next, if it has a call left and that is enabled.
abbrev pub next_entry : Document → Blanks → List Entry → ℕ → Option Entry
next_entry document blanks history who = entry_of document blanks history who (next_of document history who)

-- its line in the trace, with its line feed
abbrev pub entry_line : Document → List Entry → Entry → List ℕ
entry_line document history e =
    line_text document.script.sessions (names_in document.description (history ++ e ∷ [])) e

-- ---- Whom a line names

-- what stands before the first space of a line, or before its line feed if it has no space
abbrev pub first_word : List ℕ → List ℕ
first_word [] = []
first_word (b ∷ bs) = if b == 32 || b == 10 then [] else b ∷ first_word bs

-- the caller of this name: a session by its number, or the loop, whose number is that behind the sessions
abbrev pub caller_named : List SessionText → List ℕ → Option ℕ
caller_named sessions name =
    if same_name name (codes "loop") then Some (length sessions) else position (λ s. same_name name s.name) sessions

-- the next entry of this caller, if there is one
abbrev pub entry_by : Document → Blanks → List Entry → Option ℕ → Option Entry
entry_by document blanks history None = None
entry_by document blanks history (Some who) = next_entry document blanks history who

-- The entry that is to come where this line stands: the next one of the caller that the line names.
abbrev pub entry_named : Document → Blanks → List Entry → List ℕ → Option Entry
entry_named document blanks history line =
    entry_by document blanks history (caller_named document.script.sessions (first_word line))

-- The line that was to come there, without its line feed; nothing if no entry was.
abbrev pub expected_at : Document → Blanks → List Entry → List ℕ → List ℕ
expected_at document blanks history line =
    option_map_or (λ e. without_last 10 (entry_line document history e)) (entry_named document blanks history line) []
