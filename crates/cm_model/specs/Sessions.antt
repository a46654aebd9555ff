-- What a history must hold of a document: every session's lines, each once and in order, and the requested cycles.
use Rattle.std.specs.Prelude.{◌≡◌, ℕ, zero, suc, ◌≤◌, ◌==◌, Bool, true, false, not, List, [], ◌∷◌, ◌++◌, length, map}
use Rattle.std.specs.Prelude.{filter, flat_map, slice_get, Option, Some, None, IfSome}
use Rattle.std.specs.List.{AllByRecursion}
use Rattle.cm_document.specs.declared.call.Call.{Call}
use Rattle.cm_document.specs.declared.call.Call.TheVariants.{Told, Begin, End, Close}
use Rattle.cm_document.specs.declared.document.Document.{Document}
use Rattle.cm_model.specs.Scheduled.{ticket_in}
use Rattle.cm_model.specs.declared.entry.Entry.{Entry}
use Rattle.cm_model.specs.declared.reply.Reply.{Reply}

-- A call of a session is any but the loop's three.
abbrev pub IsConsole : Call → Type 0
IsConsole (Begin _) = ⊥
IsConsole (End _) = ⊥
IsConsole Close = ⊥
IsConsole _ = Unit {0}

-- the entries of this caller, in order
abbrev pub entries_by : ℕ → List Entry → List Entry
entries_by who history = filter (λ e. e.who == who) history

-- the calls of some entries
abbrev pub calls_of : List Entry → List Call
calls_of entries = map (λ e. e.call) entries

-- ---- A session's entries

-- to be told what became of a request
abbrev pub is_told : Call → Bool
is_told (Told ticket) = true
is_told _ = false

-- the Told of a ticket, where there is one
abbrev pub told_of : Option ℕ → List Call
told_of None = []
told_of (Some ticket) = Told ticket ∷ []

-- the Told that belongs after this reply: that of the ticket that it gave
abbrev pub told_after : Reply → List Call
told_after r = told_of (ticket_in r)

-- an entry's call with the Told that belongs after it
abbrev pub with_its_told : Entry → List Call
with_its_told e = e.call ∷ told_after e.reply

-- the entries that are no Told
abbrev pub asked : List Entry → List Entry
asked entries = filter (λ e. not (is_told e.call)) entries

-- A session's entries follow its lines: without the Told entries they have these calls, each once and in order;
-- directly after each entry that gave a ticket stands the Told of that ticket; and there is no other Told.
pub record Follows (lines : List Call) (entries : List Entry) : Type 0 where
  pub in_order : calls_of (asked entries) ≡ lines
  pub each_told : calls_of entries ≡ flat_map with_its_told (asked entries)

-- Where a session has come. Without its Told entries its entries so far are the lines that it has made, and those that
-- are left are the others. Each Told stands where it belongs, but for that of the ticket that is still to be told.
pub record Comes (entries : List Entry) (lines left : List Call) (ticket : Option ℕ) : Type 0 where
  pub in_order : calls_of (asked entries) ++ left ≡ lines
  pub each_told : calls_of entries ++ told_of ticket ≡ flat_map with_its_told (asked entries)

-- ---- The loop's entries

-- the loop's calls for the first n cycles
abbrev pub cycle_calls : ℕ → List Call
cycle_calls zero = []
cycle_calls (suc n) = cycle_calls n ++ (Begin n ∷ End n ∷ [])

-- the loop's calls for a whole run of n cycles
abbrev pub loop_calls : ℕ → List Call
loop_calls n = cycle_calls n ++ Close ∷ []

-- A history is whole for a document where it has each session's lines, each once and in order, the begin and the end of
-- each cycle and then the close, and nobody else's calls.
pub record IsWhole (document : Document) (history : List Entry) : Type 0 where
  pub sessions : (k : ℕ)
      → IfSome (slice_get document.script.sessions k) (λ session. Follows session.lines (entries_by k history))
  pub cycles : calls_of (entries_by (length document.script.sessions) history) ≡ loop_calls document.description.cycles
  pub nobody_else : AllByRecursion (λ e. e.who ≤ length document.script.sessions) history
