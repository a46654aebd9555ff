-- A printed script reads back: its sessions, then its schedule.
use Rattle.std.proofs.Common.{◌≡◌, ℕ, zero, suc, ◌+◌, ◌<◌, ◌≤◌, true, false, List, [], ◌∷◌, ◌++◌, length, Some}
use Rattle.std.proofs.Common.{None, Ok, refl, sym, ap, ◌∙◌, subst, arith, rules, append_assoc, length-append}
use Rattle.std.specs.Prelude.{IsTrue, nat_le, nat_lt, flat_map, sum_by, codes, position}
use Rattle.std.specs.List.{AllByRecursion, list_any, list_all, position_from}
use Rattle.std.proofs.lemmas.Bool.Decides.{nat_tests}
use Rattle.std.proofs.lemmas.Bool.{and_from}
use Rattle.std.proofs.lemmas.Cmp.{nat_list_eq_equiv}
use Rattle.std.proofs.lemmas.Iterator.Adapters.{position_from-zero}
use Rattle.std.proofs.lemmas.List.{append-nil}
use Rattle.std.proofs.lemmas.List.Folds.{list_any-append}
use Rattle.std.proofs.lemmas.List.Sums.{sum_by-cons, sum_by_push}
use Rattle.iface_names.specs.Names.{same_name}
use Rattle.cm_document.specs.Reading.{◌>>=◌}
use Rattle.cm_document.specs.Lines.{raw_lines}
use Rattle.cm_document.specs.CallText.{call_text, session_text, session_name, turn_text, schedule_text, script_text}
use Rattle.cm_document.specs.ScriptRules.{Draft, nothing, script_in, session_accepted, mail_fits}
use Rattle.cm_document.specs.ScriptRules.{call_fits, then_calling, with_lines, script_with}
use Rattle.cm_document.specs.declared.limits.TheConstants.{MOST_SESSIONS, MOST_CALLS}
use Rattle.cm_document.specs.Given.{IsName}
use Rattle.cm_document.specs.ScriptLaws.{ArePointsAfter, CanBeSent, CanBeWritten, IsSession}
use Rattle.cm_document.specs.ScriptLaws.{AreApart, IsTurnAmong, MeetsRules, allows, UsesGrammar}
use Rattle.cm_document.specs.declared.call.Call.{Call}
use Rattle.cm_document.specs.declared.call.Call.TheVariants as call
use Rattle.cm_document.specs.declared.call.Mail.{Mail}
use Rattle.cm_document.specs.declared.call.Mail.TheVariants.{Values, Points}
use Rattle.cm_document.specs.declared.call.Point2.{Point2}
use Rattle.cm_document.specs.declared.script.Grammar.{Grammar}
use Rattle.cm_document.specs.declared.script.Script.{Script}
use Rattle.cm_document.specs.declared.script.SessionText.{SessionText}
use Rattle.cm_document.specs.declared.script.Turn.{Turn}
use Rattle.cm_document.specs.declared.script.Turn.TheVariants as turn
use Rattle.script_text.proofs.PrintWordLemmas.{Reads, Reads-nil, Reads-append, Reads-line}
use Rattle.script_text.proofs.PrintValueLemmas.{name_IsWord, name_short}
use Rattle.script_text.proofs.PrintCallLemmas.{call_says, one_behind}
use Rattle.sequence.proofs.ListLemmas.{in_last_push, not_empty, not_empty_push}

-- ---- Calls

points_fit : (before : ℕ) (ps : List Point2) → ArePointsAfter before ps
    → list_all (λ p. nat_le (length p.values) 32) ps ≡ true
points_fit before [] all = refl
points_fit before (p ∷ ps) all =
    let few : nat_le (length p.values) 32 ≡ true = grind (arith, nat_tests, all.0.valued.few) in
    and_from _ _ few (points_fit p.at_us ps all.1)

mail_fits_sent : (mail : Mail) → CanBeSent mail → mail_fits mail ≡ true
mail_fits_sent (Values vs) sent = grind (arith, nat_tests, sent.few)
mail_fits_sent (Points ps) sent =
    let few : nat_le (length ps) 64 ≡ true = grind (arith, nat_tests, sent.few) in
    and_from _ _ few (points_fit 0 ps sent.rising)

call_fits_written : (c : Call) → CanBeWritten c → call_fits c ≡ true
call_fits_written (call.Load name) can = refl
call_fits_written (call.Configure name) can = refl
call_fits_written (call.Cleanup name) can = refl
call_fits_written (call.Unload name) can = refl
call_fits_written (call.Rate name hz) can = refl
call_fits_written (call.Send name mail) can = mail_fits_sent mail can.1
call_fits_written (call.Switch r) can = grind (arith, nat_tests, can.few)
call_fits_written (call.Hardware name target) can = refl
call_fits_written (call.Await n) can = refl
call_fits_written call.ListControllers can = refl
call_fits_written call.ListInterfaces can = refl
call_fits_written call.ListComponents can = refl
call_fits_written (call.Told ticket) can = refl
call_fits_written (call.Begin n) can = refl
call_fits_written (call.End n) can = refl
call_fits_written call.Close can = refl

-- what stands while a session is written
abbrev writing : List SessionText → List ℕ → List Call → Draft
writing done name lines = record { sessions = done ++ record { name = name; lines = lines } ∷ []; turns = None }

-- how many calls sessions have
abbrev calls_of : List SessionText → ℕ
calls_of sessions = sum_by (λ t. length t.lines) sessions

-- so few leave room for one more
room_for : (k : ℕ) → k < MOST_CALLS → nat_lt k MOST_CALLS ≡ true
room_for k few = grind (arith, nat_tests)

-- a call's line
call_read : (grammar : Grammar) (done : List SessionText) (name : List ℕ) (lines : List Call) (c : Call)
    → CanBeWritten c → allows grammar c ≡ true → calls_of done + length lines < MOST_CALLS
    → Reads grammar (call_text c ++ codes "\n") (writing done name lines) (writing done name (lines ++ c ∷ []))
call_read grammar done name lines c can accepted few =
    let s : SessionText = record { name = name; lines = lines } in
    let said = call_says c can in
    let sum = sum_by_push (λ t. length t.lines) done s in
    let below = room_for (calls_of (done ++ s ∷ []) + 0) (omega (arith, few)) in
    let fits = call_fits_written c can in
    let read = Reads-line grammar said.0 said.1 (writing done name lines) (writing done name (lines ++ c ∷ []))
    said.2.shape
    (λ n. rw (said.2.says grammar accepted, not_empty_push done s, below, fits, in_last_push (then_calling c) done s)
    refl) in
    subst (λ t. Reads grammar (t ++ codes "\n") (writing done name lines) (writing done name (lines ++ c ∷ [])))
    (sym said.2.text) read

-- the lines of calls
abbrev calls_text : List Call → List ℕ
calls_text cs = flat_map (λ c. call_text c ++ codes "\n") cs

calls_read : (grammar : Grammar) (done : List SessionText) (name : List ℕ) (lines cs : List Call)
    → AllByRecursion CanBeWritten cs → AllByRecursion (λ c. IsTrue (allows grammar c)) cs
    → calls_of done + (length lines + length cs) ≤ MOST_CALLS
    → Reads grammar (calls_text cs) (writing done name lines) (writing done name (lines ++ cs))
calls_read grammar done name lines [] can accepted few =
    subst (λ ls. Reads grammar [] (writing done name lines) (writing done name ls)) (sym (append-nil lines))
    (Reads-nil grammar (writing done name lines))
calls_read grammar done name lines (c ∷ cs) can accepted few =
    let more = length-append lines (c ∷ []) in
    let rest = calls_read grammar done name (lines ++ c ∷ []) cs can.1 accepted.1 (omega arith) in
    Reads-append grammar (call_text c ++ codes "\n") (calls_text cs) (writing done name lines)
    (writing done name (lines ++ c ∷ [])) (writing done name (lines ++ c ∷ cs))
    (call_read grammar done name lines c can.0 accepted.0 (omega arith))
    (subst (λ ls. Reads grammar (calls_text cs) (writing done name (lines ++ c ∷ [])) (writing done name ls))
    (append_assoc lines (c ∷ []) cs) rest)

-- ---- Sessions

-- no session of this name is there
abbrev IsNew : List SessionText → List ℕ → Type 0
IsNew sessions name = list_any (λ s. same_name name s.name) sessions ≡ false

-- these sessions stand, and no schedule
abbrev standing : List SessionText → Draft
standing sessions = record { sessions = sessions; turns = None }

-- a session can be read behind those that stand
record CanFollow (grammar : Grammar) (sessions : List SessionText) (s : SessionText) : Type 0 where
  session : IsSession s
  accepted : session_accepted grammar (standing sessions) ≡ true
  new : IsNew sessions s.name
  few : length sessions < MOST_SESSIONS
  calls : AllByRecursion (λ c. IsTrue (allows grammar c)) s.lines
  room : calls_of sessions + length s.lines ≤ MOST_CALLS

-- a session's line
name_read : (grammar : Grammar) (sessions : List SessionText) (s : SessionText) → CanFollow grammar sessions s
    → Reads grammar ((codes "session " ++ s.name) ++ codes "\n") (standing sessions) (writing sessions s.name [])
name_read grammar sessions s can =
    let few : nat_le MOST_SESSIONS (length sessions) ≡ false = grind (arith, nat_tests, can.few) in
    let named = can.session.named in
    let shape = one_behind (codes "session") s.name (search (arith, rules)) refl (omega arith)
    (name_IsWord s.name named) (name_short s.name named) in
    let read = Reads-line grammar (codes "session") (s.name ∷ []) (standing sessions) (writing sessions s.name []) shape
    (λ n. rw (named, can.accepted, can.session.not_loop, can.new, few) refl) in
    subst (λ t. Reads grammar ((codes "session " ++ t) ++ codes "\n") (standing sessions) (writing sessions s.name []))
    (append-nil s.name) read

-- a session
session_read : (grammar : Grammar) (sessions : List SessionText) (s : SessionText) → CanFollow grammar sessions s
    → Reads grammar (session_text s) (standing sessions) (standing (sessions ++ s ∷ []))
session_read grammar sessions s can =
    Reads-append grammar ((codes "session " ++ s.name) ++ codes "\n") (calls_text s.lines) (standing sessions)
    (writing sessions s.name []) (writing sessions s.name s.lines)
    (name_read grammar sessions s can)
    (calls_read grammar sessions s.name [] s.lines can.session.written can.calls (omega (arith, can.room)))

-- sessions that are new stay so behind one that is apart from them
still_new : (sessions : List SessionText) (s : SessionText) (later : List SessionText)
    → AllByRecursion (λ t. IsNew sessions t.name) later → AllByRecursion (λ t. same_name t.name s.name ≡ false) later
    → AllByRecursion (λ t. IsNew (sessions ++ s ∷ []) t.name) later
still_new sessions s [] new apart = tt
still_new sessions s (t ∷ later) new apart =
    let e = list_any-append (λ s. same_name t.name s.name) sessions (s ∷ []) in
    (rw (e, new.0, apart.0) refl, still_new sessions s later new.1 apart.1)

-- before any session all are new
all_new : (sessions : List SessionText) → AllByRecursion (λ t. IsNew [] t.name) sessions
all_new [] = tt
all_new (s ∷ sessions) = (refl, all_new sessions)

-- a session's line is accepted behind these, where first and further ones are
accepted_behind : (grammar : Grammar) (done : List SessionText) → IsTrue grammar.first_session
    → (0 < length done → IsTrue grammar.further_session) → session_accepted grammar (standing done) ≡ true
accepted_behind grammar [] first further = first
accepted_behind grammar (s ∷ done) first further = rw (not_empty (s ∷ done) (omega arith)) (further (omega arith))

-- all sessions, behind those that are done
sessions_read : (grammar : Grammar) (done later : List SessionText)
    → AllByRecursion IsSession later → AreApart later → AllByRecursion (λ t. IsNew done t.name) later
    → AllByRecursion (λ t. AllByRecursion (λ c. IsTrue (allows grammar c)) t.lines) later
    → (0 < length later → IsTrue grammar.first_session)
    → (1 < length done + length later → IsTrue grammar.further_session)
    → length done + length later ≤ MOST_SESSIONS → calls_of done + calls_of later ≤ MOST_CALLS
    → Reads grammar (flat_map session_text later) (standing done) (standing (done ++ later))
sessions_read grammar done [] sessions apart new calls first further few room =
    subst (λ ss. Reads grammar [] (standing done) (standing ss)) (sym (append-nil done))
    (Reads-nil grammar (standing done))
sessions_read grammar done (s ∷ later) sessions apart new calls first further few room =
    let all = done ++ s ∷ [] in
    let sum : calls_of (s ∷ later) ≡ length s.lines + calls_of later = sum_by-cons (λ t. length t.lines) s later in
    let pushed : calls_of all ≡ calls_of done + length s.lines = sum_by_push (λ t. length t.lines) done s in
    let long = length-append done (s ∷ []) in
    let accepted = accepted_behind grammar done (first (omega arith)) (λ some. further (omega arith)) in
    let one = session_read grammar done s
    (record {
      session = sessions.0;
      accepted = accepted;
      new = new.0;
      few = omega arith;
      calls = calls.0;
      room =
          omega arith;
    }) in
    let rest = sessions_read grammar all later sessions.1 apart.1 (still_new done s later new.1 apart.0) calls.1
    (λ _. first (omega arith)) (λ many. further (omega arith)) (omega arith) (omega arith) in
    Reads-append grammar (session_text s) (flat_map session_text later) (standing done) (standing all)
    (standing (done ++ s ∷ later)) one
    (subst (λ ss. Reads grammar (flat_map session_text later) (standing all) (standing ss))
    (append_assoc done (s ∷ []) later) rest)

-- ---- The schedule

-- these sessions stand, and these turns
abbrev turning : List SessionText → List Turn → Draft
turning sessions ts = record { sessions = sessions; turns = Some ts }

-- a later session's name is not the first one's
apart_at : (first : List ℕ) (later : List SessionText) (who : ℕ) → who < length later
    → AllByRecursion (λ t. same_name t.name first ≡ false) later → same_name (session_name later who) first ≡ false
apart_at first [] who within apart = absurd (omega (arith, within))
apart_at first (t ∷ later) zero within apart = apart.0
apart_at first (t ∷ later) (suc who) within apart = apart_at first later who (omega arith) apart.1

-- a session's name is a name
pub named_at : (sessions : List SessionText) (who : ℕ) → who < length sessions → AllByRecursion IsSession sessions
    → IsName (session_name sessions who)
named_at [] who within all = absurd (omega (arith, within))
named_at (s ∷ sessions) zero within all = all.0.named
named_at (s ∷ sessions) (suc who) within all = named_at sessions who (omega arith) all.1

-- a session is found by its name
found_from : (sessions : List SessionText) (who i : ℕ) → who < length sessions → AreApart sessions
    → position_from (λ s. same_name (session_name sessions who) s.name) i sessions ≡ Some (i + who)
found_from [] who i within apart = absurd (omega (arith, within))
found_from (s ∷ sessions) zero i within apart =
    let same : same_name s.name s.name ≡ true = nat_list_eq_equiv.refl s.name in
    let e : i ≡ i + 0 = omega arith in
    rw same (ap Some e)
found_from (s ∷ sessions) (suc who) i within apart =
    let other = apart_at s.name sessions who (omega arith) apart.0 in
    let e : (i + 1) + who ≡ i + suc who = omega arith in
    rw other (found_from sessions who (i + 1) (omega arith) apart.1 ∙ ap Some e)

pub found : (sessions : List SessionText) (who : ℕ) → who < length sessions → AreApart sessions
    → position (λ s. same_name (session_name sessions who) s.name) sessions ≡ Some who
found sessions who within apart =
    let e : 0 + who ≡ who = omega arith in
    position_from-zero (λ s. same_name (session_name sessions who) s.name) sessions
    ∙ found_from sessions who 0 within apart ∙ ap Some e

-- the schedule's first line
schedule_read : (grammar : Grammar) (sessions : List SessionText) → IsTrue grammar.schedule
    → Reads grammar (codes "schedule\n") (standing sessions) (turning sessions [])
schedule_read grammar sessions accepted =
    Reads-line grammar (codes "schedule") [] (standing sessions) (turning sessions []) (search (arith, rules))
    (λ n. rw accepted refl)

-- a turn's line
turn_read : (grammar : Grammar) (sessions : List SessionText) (ts : List Turn) (t : Turn) → IsTrue grammar.schedule
    → IsTurnAmong (length sessions) t
    → AllByRecursion IsSession sessions → AreApart sessions → calls_of sessions + length ts < MOST_CALLS
    → Reads grammar (turn_text sessions t) (turning sessions ts) (turning sessions (ts ++ t ∷ []))
turn_read grammar sessions ts (turn.Step who) accepted among all apart few =
    let below = room_for (calls_of sessions + length ts) few in
    let name = session_name sessions who in
    let named = named_at sessions who among all in
    let number : position (λ s. same_name name s.name) sessions ≡ Some who = found sessions who among apart in
    let shape = one_behind (codes "step") name (search (arith, rules)) refl (omega arith) (name_IsWord name named)
    (name_short name named) in
    let read = Reads-line grammar (codes "step") (name ∷ []) (turning sessions ts)
    (turning sessions (ts ++ turn.Step who ∷ [])) shape (λ n. rw (accepted, named, number, below) refl) in
    subst (λ t. Reads grammar ((codes "step " ++ t) ++ codes "\n") (turning sessions ts)
    (turning sessions (ts ++ turn.Step who ∷ []))) (append-nil name) read
turn_read grammar sessions ts turn.Begin accepted among all apart few =
    let below = room_for (calls_of sessions + length ts) few in
    Reads-line grammar (codes "begin") [] (turning sessions ts) (turning sessions (ts ++ turn.Begin ∷ []))
    (search (arith, rules)) (λ n. rw (accepted, below) refl)
turn_read grammar sessions ts turn.End accepted among all apart few =
    let below = room_for (calls_of sessions + length ts) few in
    Reads-line grammar (codes "end") [] (turning sessions ts) (turning sessions (ts ++ turn.End ∷ []))
    (search (arith, rules)) (λ n. rw (accepted, below) refl)

-- all turns
turns_read : (grammar : Grammar) (sessions : List SessionText) (ts more : List Turn) → IsTrue grammar.schedule
    → AllByRecursion (IsTurnAmong (length sessions)) more
    → AllByRecursion IsSession sessions → AreApart sessions → calls_of sessions + (length ts + length more) ≤ MOST_CALLS
    → Reads grammar (flat_map (turn_text sessions) more) (turning sessions ts) (turning sessions (ts ++ more))
turns_read grammar sessions ts [] accepted among all apart few =
    subst (λ us. Reads grammar [] (turning sessions ts) (turning sessions us)) (sym (append-nil ts))
    (Reads-nil grammar (turning sessions ts))
turns_read grammar sessions ts (t ∷ more) accepted among all apart few =
    let long = length-append ts (t ∷ []) in
    let rest = turns_read grammar sessions (ts ++ t ∷ []) more accepted among.1 all apart (omega arith) in
    Reads-append grammar (turn_text sessions t) (flat_map (turn_text sessions) more) (turning sessions ts)
    (turning sessions (ts ++ t ∷ [])) (turning sessions (ts ++ t ∷ more))
    (turn_read grammar sessions ts t accepted among.0 all apart (omega arith))
    (subst (λ us. Reads grammar (flat_map (turn_text sessions) more) (turning sessions (ts ++ t ∷ []))
    (turning sessions us)) (append_assoc ts (t ∷ []) more) rest)

-- ---- Scripts

-- reading all of this text leads to what is this script
record IsRead (grammar : Grammar) (text : List ℕ) (s : Script) : Type 0 where
  after : Draft
  reads : Reads grammar text nothing after
  script : script_in after ≡ s

-- a script of these sessions, without turns and with them
script_read : (grammar : Grammar) (sessions : List SessionText) (schedule : List Turn)
    → MeetsRules (record { sessions = sessions; schedule = schedule })
    → UsesGrammar grammar (record { sessions = sessions; schedule = schedule })
    → IsRead grammar (flat_map session_text sessions ++ schedule_text sessions schedule)
    (record { sessions = sessions; schedule = schedule })
script_read grammar sessions [] meets uses =
    let few = meets.few_calls in
    let front = sessions_read grammar [] sessions meets.sessions meets.apart (all_new sessions) uses.calls uses.first
    (λ many. uses.further (omega arith)) (omega (arith, meets.few_sessions)) (omega arith) in
    record {
      after = standing sessions;
      reads = Reads-append grammar (flat_map session_text sessions) [] nothing (standing sessions) (standing sessions)
          front (Reads-nil grammar (standing sessions));
      script = refl;
    }
script_read grammar sessions (t ∷ ts) meets uses =
    let few = meets.few_calls in
    let front = sessions_read grammar [] sessions meets.sessions meets.apart (all_new sessions) uses.calls uses.first
    (λ many. uses.further (omega arith)) (omega (arith, meets.few_sessions)) (omega arith) in
    let accepted = uses.turns (omega arith) in
    let turns = turns_read grammar sessions [] (t ∷ ts) accepted meets.turns meets.sessions meets.apart (omega arith) in
    let behind =
    Reads-append grammar (codes "schedule\n") (flat_map (turn_text sessions) (t ∷ ts)) (standing sessions)
    (turning sessions []) (turning sessions (t ∷ ts))
    (schedule_read grammar sessions accepted) turns in
    record {
      after = turning sessions (t ∷ ts);
      reads = Reads-append grammar (flat_map session_text sessions) (schedule_text sessions (t ∷ ts)) nothing
          (standing sessions) (turning sessions (t ∷ ts)) front behind;
      script = refl;
    }

-- what is printed of a script that meets the rules reads back
pub printed_reads_back : (s : Script) (grammar : Grammar) (n : ℕ) → MeetsRules s → UsesGrammar grammar s
    → script_with grammar n (script_text s) ≡ Ok s
unfolding script_with script_text
printed_reads_back s grammar n meets uses =
    let text = flat_map session_text s.sessions ++ schedule_text s.sessions s.schedule in
    let read = script_read grammar s.sessions s.schedule meets uses in
    let whole = read.reads n [] in
    ap (λ t. with_lines grammar n nothing (raw_lines t) >>= λ w. Ok (script_in w)) (sym (append-nil text))
    ∙ ap (λ r. r >>= λ w. Ok (script_in w)) whole.1
    ∙ ap Ok read.script
