-- Each call of a history that is on its way is one that a line says, or one that needs no line.
use Rattle.std.proofs.Common.{◌≡◌, ℕ, zero, suc, Bool, true, false, List, [], ◌∷◌, ◌++◌, length}
use Rattle.std.proofs.Common.{drop, Option, Some, None, refl, sym, subst, append_assoc}
use Rattle.std.specs.Prelude.{◌==◌, slice_get, if◌then◌else◌, codes, decimal, IfSome}
use Rattle.std.specs.List.{AllByRecursion}
use Rattle.std.proofs.lemmas.Option.{same_Some}
use Rattle.sequence.proofs.ListLemmas.{all_append, all_at}
use Rattle.cm_document.specs.CallText.{call_text}
use Rattle.cm_document.specs.ScriptLaws.{CanBeWritten, IsSession, MeetsRules}
use Rattle.cm_document.specs.declared.call.Call.{Call}
use Rattle.cm_document.specs.declared.call.Call.TheVariants.{Load, Told, Begin, End, Close}
use Rattle.cm_document.specs.declared.document.Document.{Document}
use Rattle.cm_document.specs.declared.script.SessionText.{SessionText}
use Rattle.cm_model.specs.Scheduled.{next_call}
use Rattle.cm_model.specs.Sessions.{asked, entries_by, cycle_calls, loop_calls}
use Rattle.cm_model.specs.Trace.{loaded_by, names_of}
use Rattle.cm_model.specs.declared.entry.Entry.{Entry}
use Rattle.cm_model.specs.declared.reply.Reply.{Reply}
use Rattle.cm_model.specs.declared.reply.Reply.TheVariants as reply
use Rattle.cm_document.proofs.DistinctLemmas.{all_so}
use Rattle.cm_storage.specs.Kept.{load_name}
use Rattle.script_text.proofs.PrintCallLemmas.{call_says}
use Rattle.script_text.proofs.PrintWordLemmas.{IsPrinted, IsPrinted-append, shown_IsPrinted, spaced, spaced_IsPrinted}
use Rattle.trace_laws.specs.Next.{ticket_after, next_of_loop, next_past, next_by}
use Rattle.trace_laws.specs.OnTheWay.{IsOnItsWay}
use Rattle.trace_laws.proofs.SpellingLemmas.{word_printed, name_printed, decimal_printed, each_found_so, got_so}
use Rattle.trace_laws.proofs.StateTextLemmas.{IsSaid, all_drop}
use Rattle.trace_laws.proofs.WayLemmas.{next_is}

-- ---- What is said

can_said : (call : Call) → CanBeWritten call → IsSaid call
can_said (Told ticket) can = tt
can_said (Begin number) can = tt
can_said (End number) can = tt
can_said Close can = tt
can_said _ can = can

-- a session's next call
next_said : (ticket : Option ℕ) (lines : List Call) (call : Call) → AllByRecursion CanBeWritten lines
    → next_call ticket lines ≡ Some call → IsSaid call
next_said (Some ticket) lines call can next = subst IsSaid (same_Some (Told ticket) call next) tt
next_said None [] call can next = cc
next_said None (line ∷ lines) call can next = subst IsSaid (same_Some line call next) (can_said line can.0)

-- the loop's calls
cycles_said : (n : ℕ) → AllByRecursion IsSaid (cycle_calls n)
cycles_said zero = tt
cycles_said (suc n) = all_append IsSaid (cycle_calls n) (Begin n ∷ End n ∷ []) (cycles_said n) (tt, (tt, tt))

loop_said : (n : ℕ) → AllByRecursion IsSaid (loop_calls n)
loop_said n = all_append IsSaid (cycle_calls n) (Close ∷ []) (cycles_said n) (tt, tt)

module _ (document : Document) (rules : MeetsRules document.script) where
  past_said : (history : List Entry) (who : ℕ) (call : Call) → next_past document history who ≡ Some call → IsSaid call
  past_said history who call next = of (who == length document.script.sessions) next
    where
      es : List Entry
      es = entries_by who history

      of : (b : Bool) → (if b then next_of_loop document.description.cycles es else None) ≡ Some call → IsSaid call
      of true next =
          all_at IsSaid (loop_calls document.description.cycles) (length es) call
          (loop_said document.description.cycles) next
      of false next = cc

  by_said : (history : List Entry) (who : ℕ) (call : Call) (o : Option SessionText) → IfSome o IsSession
      → next_by document history who o ≡ Some call → IsSaid call
  by_said history who call None is next = past_said history who call next
  by_said history who call (Some session) is next =
      let es = entries_by who history in
      next_said (ticket_after None es) (drop (length (asked es)) session.lines) call
      (all_drop CanBeWritten (length (asked es)) session.lines is.written) next

  -- each call of a history that is on its way
  pub said_behind : (before later : List Entry) → IsOnItsWay document (before ++ later)
      → AllByRecursion (λ (e : Entry). IsSaid e.call) later
  said_behind before [] way = tt
  said_behind before (e ∷ es) way = (
    by_said before e.who e.call (slice_get document.script.sessions e.who)
        (got_so IsSession document.script.sessions rules.sessions e.who) (next_is document before es e way),
    said_behind (before ++ e ∷ []) es (subst (IsOnItsWay document) (sym (append_assoc before (e ∷ []) es)) way),
  )

-- ---- What is said prints

written_printed : (call : Call) → CanBeWritten call → IsPrinted (call_text call)
written_printed call can =
    let says = call_says call can in
    let shape = says.2.shape in
    subst IsPrinted (sym says.2.text)
    (IsPrinted-append says.0 (spaced says.1) (shown_IsPrinted says.0 shape.first.shown)
    (spaced_IsPrinted says.1 shape.others))

pub call_printed : (call : Call) → IsSaid call → IsPrinted (call_text call)
call_printed (Told ticket) said =
    IsPrinted-append (codes "told ") (decimal ticket) (word_printed (codes "told ") refl) (decimal_printed ticket)
call_printed (Begin number) said =
    IsPrinted-append (codes "begin ") (decimal number) (word_printed (codes "begin ") refl) (decimal_printed number)
call_printed (End number) said =
    IsPrinted-append (codes "end ") (decimal number) (word_printed (codes "end ") refl) (decimal_printed number)
call_printed Close said = word_printed (codes "close") refl
call_printed call said = written_printed call said

-- ---- What was loaded prints

load_printed : (call : Call) → IsSaid call → IfSome (load_name call) IsPrinted
load_printed (Load name) said = name_printed name said
load_printed _ said = tt

loaded_printed : (call : Call) (r : Reply) → IsSaid call → IfSome (loaded_by call r) IsPrinted
loaded_printed call (reply.Serial serial) said = load_printed call said
loaded_printed call _ said = tt

pub names_printed : (history : List Entry) → AllByRecursion (λ (e : Entry). IsSaid e.call) history
    → AllByRecursion IsPrinted (names_of history)
names_printed history said =
    each_found_so IsPrinted (λ (e : Entry). loaded_by e.call e.reply) history
    (all_so (λ (e : Entry). IsSaid e.call) (λ (e : Entry). IfSome (loaded_by e.call e.reply) IsPrinted)
    (λ e is. loaded_printed e.call e.reply is) history said)
