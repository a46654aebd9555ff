-- A live run without sessions: the loop alone leaves one legal, sound and whole history.
use Rattle.std.proofs.Common.{◌≡◌, ℕ, ◌≤◌, List, [], ◌∷◌, length, map, None, true, refl, sym, ap, subst}
use Rattle.std.proofs.Common.{◌∙◌, arith}
use Rattle.std.specs.Prelude.{◌-◌, ◌==◌, Err, IfOk, IfSome, Ok, Result, slice_get}
use Rattle.std.specs.List.{AllByRecursion}
use Rattle.std.proofs.lemmas.Bool.{and_parts, eqb-true, ltb-true}
use Rattle.std.proofs.lemmas.List.{nil_from_length}
use Rattle.cm_document.specs.declared.call.Call.{Call}
use Rattle.cm_document.specs.declared.call.Call.TheVariants.{Told, Await, Begin, End, Close}
use Rattle.cm_document.specs.declared.description.Description.{Description}
use Rattle.cm_document.specs.declared.document.Document.{Document}
use Rattle.cm_document.specs.declared.script.SessionText.{SessionText}
use Rattle.cm_model.specs.Machine.{LegalFrom, can_begin, can_close, can_end, is_decided, is_enabled}
use Rattle.cm_model.specs.Machine.{is_loop, is_reached, is_session, step}
use Rattle.cm_model.specs.Sessions.{calls_of, entries_by, loop_calls, Follows}
use Rattle.cm_model.specs.Sound.{moments, AreSound}
use Rattle.cm_model.specs.State.{Loaded, State, boot}
use Rattle.cm_model.specs.declared.blanks.Blanks.{Blanks}
use Rattle.cm_model.specs.declared.entry.Entry.{Entry}
use Rattle.cm_model.proofs.LegalLemmas.{step_of}
use Rattle.cm_model.proofs.StayLemmas.{step-Stands}
use Rattle.cm_model.proofs.WaitingLemmas.{step-enabled}
use Rattle.cm_desk.specs.Desk.{History, IsRight, now_of}
use Rattle.live_run.specs.Loops.{IsAtFirst}
use Rattle.desk_turns.specs.Ports.{loop_console}
use Rattle.desk_jobs.specs.Book.{IsDone}
use Rattle.desk_jobs.specs.Live.{HasLoopedAlone}

-- ---- Before the run

-- the loop over a desk that was booted is before its first cycle
pub alone_at_first : (description : Description) (blanks : Blanks) (h : History)
    → h ≡ record { opening = boot description blanks 0; made = [] } → IsAtFirst description.cycles (loop_console h)
alone_at_first description blanks h booted =
    let all : description.cycles - 0 ≡ description.cycles = omega arith in
    subst (λ (it : History). IsAtFirst description.cycles (loop_console it)) (sym booted)
    (record { none = refl; left = all; home = refl; not_closed = refl })

-- what it leaves is a desk of the same boot, on which it made all cycles and closed
pub looped_alone : (description : Description) (blanks : Blanks) (first h : History)
    → first ≡ record { opening = boot description blanks 0; made = [] } → IsRight h → h.opening ≡ first.opening
    → calls_of (loop_console h).made ≡ loop_calls description.cycles → (loop_console h).closed ≡ true
    → HasLoopedAlone description blanks h
looped_alone description blanks first h booted right still looped closed =
    let opening : h.opening ≡ boot description blanks 0 = still ∙ ap (λ (it : History). it.opening) booted in
    record {
      opening = opening;
      right = right;
      looped = subst (λ (s : State). calls_of (entries_by s.sessions h.made) ≡ loop_calls description.cycles) opening
          looped;
      closed = closed;
    }

-- ---- Who calls

a_session : (s : State) (who : ℕ) → is_session s who ≡ true → who ≤ s.sessions
a_session s who is = let less = ltb-true who s.sessions is in omega (arith, less)

the_loop : (s : State) (who : ℕ) → is_loop s who ≡ true → who ≤ s.sessions
the_loop s who is = let same = eqb-true who s.sessions is in omega (arith, same)

-- whoever can call is a session or the loop
caller_within : (s : State) (who : ℕ) (call : Call) → is_enabled s who call ≡ true → who ≤ s.sessions
caller_within s who (Told ticket) enabled =
    a_session s who (and_parts (is_session s who) (is_decided s ticket) enabled).0
caller_within s who (Await cycles) enabled =
    a_session s who (and_parts (is_session s who) (is_reached s cycles) enabled).0
caller_within s who (Begin cycle) enabled = the_loop s who (and_parts (is_loop s who) (can_begin s cycle) enabled).0
caller_within s who (End cycle) enabled = the_loop s who (and_parts (is_loop s who) (can_end s cycle) enabled).0
caller_within s who Close enabled = the_loop s who (and_parts (is_loop s who) (can_close s) enabled).0
caller_within s who _ enabled = a_session s who enabled

-- so in a legal history nobody else calls
callers_within : (made : List Entry) (s : State) → LegalFrom s made
    → AllByRecursion (λ (e : Entry). e.who ≤ s.sessions) made
callers_within [] s legal = tt
callers_within (e ∷ made) s legal =
    let first = step_of (step s e.who e.call) e.reply (λ each. LegalFrom each made) legal in
    let sessions = (step-Stands s e.who e.call (first.0, e.reply) first.1).sessions in (
      caller_within s e.who e.call (step-enabled s e.who e.call (first.0, e.reply) first.1),
      subst (λ (n : ℕ). AllByRecursion (λ (each : Entry). each.who ≤ n) made) sessions
          (callers_within made first.0 first.2),
    )

-- ---- The history

-- Where there is no session, the loop alone makes a whole history.
pub alone_done : (d : Document) (blanks : Blanks) (h : History) → d.script.sessions ≡ []
    → HasLoopedAlone d.description blanks h → IsDone None blanks d h
alone_done d blanks h nobody alone =
    let none : length d.script.sessions ≡ 0 = ap length nobody in
    let from : h.opening ≡ boot d.description blanks (length d.script.sessions) =
    subst (λ (n : ℕ). h.opening ≡ boot d.description blanks n) (sym none) alone.opening in
    record {
      opening = from;
      closed = alone.closed;
      book_is = record {
        history = tt;
        legal = subst (λ (s : State). LegalFrom s h.made) from alone.right.legal;
        sound = subst (λ (s : State). AreSound (moments s h.made)) from alone.right.sound;
        whole = record {
          sessions = λ k. subst
              (λ (texts : List SessionText).
              IfSome (slice_get texts k) (λ (t : SessionText). Follows t.lines (entries_by k h.made))) (sym nobody) tt;
          cycles = subst (λ (n : ℕ). calls_of (entries_by n h.made) ≡ loop_calls d.description.cycles) (sym none)
              alone.looped;
          nobody_else = subst (λ (n : ℕ). AllByRecursion (λ (e : Entry). e.who ≤ n) h.made)
              (ap (λ (s : State). s.sessions) from) (callers_within h.made h.opening alone.right.legal);
        };
        boxes = ap (λ (s : State). map (λ (l : Loaded). l.ctl)
            (now_of (record { opening = s; made = h.made })).loaded) from;
      };
    }

-- So is the run that is made where a list of sessions has none.
pub alone_if_none : {E : Type 0} (d : Document) (blanks : Blanks) (made : Result History E)
    → (length d.script.sessions == 0) ≡ true → IfOk made (HasLoopedAlone d.description blanks)
    → IfOk made (IsDone None blanks d)
alone_if_none d blanks (Ok h) nobody alone =
    alone_done d blanks h (nil_from_length d.script.sessions (eqb-true (length d.script.sessions) 0 nobody)) alone
alone_if_none d blanks (Err e) nobody alone = tt
