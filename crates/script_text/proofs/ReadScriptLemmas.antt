-- A script that is read meets the rules and uses accepted forms alone.
use Rattle.std.proofs.Common.{◌≡◌, ℕ, ◌<◌, ◌+◌, Bool, true, false, List, [], ◌∷◌, ◌++◌, length, Option}
use Rattle.std.proofs.Common.{Some, None, Result, Ok, Err, refl, subst, arith, length-append, ltb-true}
use Rattle.std.specs.Prelude.{◌==◌, IfOk, IfSome, IsTrue, is_some, position}
use Rattle.std.specs.Prelude.{nat_le, nat_lt, not, ◌&&◌, if◌then◌else◌, codes}
use Rattle.std.specs.List.{AllByRecursion, list_any}
use Rattle.std.proofs.lemmas.Bool.{and_parts, cond_both, or_parts, not-true, not-false}
use Rattle.std.proofs.lemmas.Bool.Decides.{nat_tests}
use Rattle.std.proofs.lemmas.List.Sums.{sum_by_push}
use Rattle.std.proofs.lemmas.List.Quantifiers.{position-Some}
use Rattle.iface_names.specs.Names.{same_name}
use Rattle.cm_document.specs.Lines.{raw_lines, bare, words, is_skipped}
use Rattle.cm_document.specs.LineGrammar.{line_of}
use Rattle.cm_document.specs.declared.limits.TheConstants.{LONGEST_LINE, MOST_SESSIONS, MOST_CALLS}
use Rattle.cm_document.specs.ScriptRules.{Draft, nothing, script_in, calls_and_turns, has_room}
use Rattle.cm_document.specs.ScriptRules.{session_accepted, is_session_line, with_session, call_fits}
use Rattle.cm_document.specs.ScriptRules.{then_calling, with_call, with_schedule, with_turn, session_number}
use Rattle.cm_document.specs.ScriptRules.{with_step, with_said, with_line, with_lines, script_with}
use Rattle.cm_document.specs.Given.{IsName}
use Rattle.cm_document.specs.ScriptLaws.{CanBeWritten, IsSession, AreApart, IsTurnAmong}
use Rattle.cm_document.specs.ScriptLaws.{MeetsRules, allows, UsesGrammar}
use Rattle.cm_document.specs.declared.call.Call.{Call}
use Rattle.cm_document.specs.declared.script.Grammar.{Grammar}
use Rattle.cm_document.specs.declared.script.Script.{Script}
use Rattle.cm_document.specs.declared.script.ScriptLine.{ScriptLine}
use Rattle.cm_document.specs.declared.script.ScriptLine.TheVariants as line
use Rattle.cm_document.specs.declared.script.SessionText.{SessionText}
use Rattle.cm_document.specs.declared.script.Turn.{Turn}
use Rattle.cm_document.specs.declared.script.Turn.TheVariants as turn
use Rattle.cm_document.specs.declared.faults.ScriptFault.{ScriptFault}
use Rattle.cm_document.specs.declared.faults.ScriptFault.TheVariants.{BadLine, NoSession}
use Rattle.sequence.specs.Last.{in_last}
use Rattle.sequence.proofs.ListLemmas.{all_push, not_empty, length_in_last, all_in_last}
use Rattle.cm_document.proofs.ReadingLemmas.{bind_keeps}
use Rattle.script_text.proofs.ReadCallLemmas.{Says, line_of_Says}
use Rattle.script_text.proofs.RuleLemmas.{count_calling}

-- ---- Sessions

-- a new session is apart from those that are there
apart_push : (xs : List SessionText) (s : SessionText) → AreApart xs
    → list_any (λ x. same_name s.name x.name) xs ≡ false → AreApart (xs ++ s ∷ [])
apart_push [] s apart new = (tt, tt)
apart_push (x ∷ xs) s apart new =
    let both = or_parts (same_name s.name x.name) (list_any (λ x. same_name s.name x.name) xs) new in
    (all_push (λ later. same_name later.name x.name ≡ false) xs s apart.0 both.0, apart_push xs s apart.1 both.1)

-- and stays so, whatever its calls
apart_calling : (made : Call) (xs : List SessionText) → AreApart xs → AreApart (in_last (then_calling made) xs)
apart_calling made [] apart = tt
apart_calling made (x ∷ []) apart = (tt, tt)
apart_calling made (x ∷ y ∷ xs) apart = (
  all_in_last (λ later. same_name later.name x.name ≡ false) (then_calling made) (y ∷ xs) apart.0 (λ later h. h),
  apart_calling made (y ∷ xs) apart.1,
)

-- ---- What is kept from line to line

-- what stands meets the rules and uses accepted forms alone
record Keeps (grammar : Grammar) (w : Draft) : Type 0 where
  meets : MeetsRules (script_in w)
  uses : UsesGrammar grammar (script_in w)

-- what a session's line keeps
record IsNewSession (grammar : Grammar) (sessions : List SessionText) (name : List ℕ) : Type 0 where
  accepted : session_accepted grammar (record { sessions = sessions; turns = None }) ≡ true
  named : IsName name
  not_loop : same_name name (codes "loop") ≡ false
  new : list_any (λ s. same_name name s.name) sessions ≡ false
  few : length sessions < MOST_SESSIONS

-- a new session is the first, or a further one
first_accepted : (grammar : Grammar) (sessions : List SessionText)
    → session_accepted grammar (record { sessions = sessions; turns = None }) ≡ true
    → (0 < length sessions → IsTrue grammar.first_session) → IsTrue grammar.first_session
first_accepted grammar [] accepted first = accepted
first_accepted grammar (s ∷ sessions) accepted first = first (omega arith)

further_accepted : (grammar : Grammar) (sessions : List SessionText)
    → session_accepted grammar (record { sessions = sessions; turns = None }) ≡ true
    → 1 < length sessions + 1 → IsTrue grammar.further_session
further_accepted grammar [] accepted many = absurd (omega arith)
further_accepted grammar (s ∷ sessions) accepted many = rw (not_empty (s ∷ sessions) (omega arith)) at accepted

session_added : (grammar : Grammar) (sessions : List SessionText) (name : List ℕ)
    → Keeps grammar (record { sessions = sessions; turns = None }) → IsNewSession grammar sessions name
    → Keeps grammar (record { sessions = sessions ++ record { name = name; lines = [] } ∷ []; turns = None })
session_added grammar sessions name keeps new =
    let s : SessionText = record { name = name; lines = [] } in
    let long = length-append sessions (s ∷ []) in
    let sum = sum_by_push (λ t. length t.lines) sessions s in
    let few = keeps.meets.few_calls in
    record {
      meets = record {
        few_sessions = omega (arith, new.few);
        few_calls = omega arith;
        sessions = all_push IsSession sessions s keeps.meets.sessions
            (record { named = new.named; not_loop = new.not_loop; written = tt });
        apart = apart_push sessions s keeps.meets.apart new.new;
        turns = tt;
      };
      uses = record {
        first = λ _. first_accepted grammar sessions new.accepted keeps.uses.first;
        further = λ many. further_accepted grammar sessions new.accepted (omega arith);
        calls = all_push (λ t. AllByRecursion (λ c. IsTrue (allows grammar c)) t.lines) sessions s keeps.uses.calls tt;
        turns = keeps.uses.turns;
      };
    }

-- a session's line
with_session_keeps : (grammar : Grammar) (n : ℕ) (sessions : List SessionText) (turns : Option (List Turn))
    (name : List ℕ)
    → Keeps grammar (record { sessions = sessions; turns = turns }) → IsName name
    → IfOk (with_session grammar n (record { sessions = sessions; turns = turns }) name) (Keeps grammar)
with_session_keeps grammar n sessions (Some ts) name keeps named =
    cond_both (not (is_session_line grammar (record { sessions = sessions; turns = Some ts }) name)) _ _
    (λ r. IfOk r (Keeps grammar)) (λ _. tt)
    (λ line.
    let a = and_parts _ _ (not-false _ line) in
    let b = and_parts _ _ a.0 in
    let c = and_parts (session_accepted grammar (record { sessions = sessions; turns = Some ts })) _ b.0 in
    let no = c.1 in cc)
with_session_keeps grammar n sessions None name keeps named =
    cond_both (not (is_session_line grammar (record { sessions = sessions; turns = None }) name)) _ _
    (λ r. IfOk r (Keeps grammar)) (λ _. tt)
    (λ line. cond_both (nat_le MOST_SESSIONS (length sessions)) _ _ (λ r. IfOk r (Keeps grammar)) (λ _. tt)
    (λ room.
    let a = and_parts _ _ (not-false _ line) in
    let b = and_parts _ _ a.0 in
    let c = and_parts (session_accepted grammar (record { sessions = sessions; turns = None })) _ b.0 in
    session_added grammar sessions name keeps
    (record {
      accepted = c.0;
      named = named;
      not_loop = not-true _ b.1;
      new = not-true _ a.1;
      few =
          grind (arith, nat_tests);
    })))

-- ---- Calls

-- a call more in the last session
call_added : (grammar : Grammar) (w : Draft) (c : Call) → Keeps grammar w → CanBeWritten c → allows grammar c ≡ true
    → (length w.sessions == 0) ≡ false
    → calls_and_turns (script_in w) < MOST_CALLS
    → Keeps grammar (record w { sessions = in_last (then_calling c) w.sessions })
call_added grammar w c keeps can accepted some room =
    let long = length_in_last (then_calling c) w.sessions in
    let sum = count_calling c w.sessions some in
    let few = keeps.meets.few_sessions in
    record {
      meets = record {
        few_sessions = omega arith;
        few_calls = omega arith;
        sessions = all_in_last IsSession (then_calling c) w.sessions keeps.meets.sessions
            (λ s is. record
            { named = is.named; not_loop = is.not_loop; written = all_push CanBeWritten s.lines c is.written can });
        apart = apart_calling c w.sessions keeps.meets.apart;
        turns = rw long keeps.meets.turns;
      };
      uses = record {
        first = λ some'. keeps.uses.first (omega arith);
        further = λ many. keeps.uses.further (omega arith);
        calls = all_in_last (λ t. AllByRecursion (λ c. IsTrue (allows grammar c)) t.lines) (then_calling c) w.sessions
            keeps.uses.calls
            (λ t all. all_push (λ c. IsTrue (allows grammar c)) t.lines c all accepted);
        turns = keeps.uses.turns;
      };
    }

-- a call's line
with_call_keeps : (grammar : Grammar) (n : ℕ) (w : Draft) (c : Call) → Keeps grammar w
    → (call_fits c ≡ true → CanBeWritten c) → allows grammar c ≡ true → IfOk (with_call n w c) (Keeps grammar)
with_call_keeps grammar n w c keeps can accepted =
    cond_both (is_some w.turns) _ _ (λ r. IfOk r (Keeps grammar)) (λ _. tt)
    (λ _. cond_both (length w.sessions == 0) _ _ (λ r. IfOk r (Keeps grammar)) (λ _. tt)
    (λ some. cond_both (has_room w && call_fits c) _ _ (λ r. IfOk r (Keeps grammar))
    (λ fits.
    let both = and_parts (has_room w) (call_fits c) fits in
    call_added grammar w c keeps (can both.1) accepted some (ltb-true _ _ both.0))
    (λ _. tt)))

-- ---- The schedule

-- the schedule's line
with_schedule_keeps : (grammar : Grammar) (n : ℕ) (sessions : List SessionText) (turns : Option (List Turn))
    → Keeps grammar (record { sessions = sessions; turns = turns })
    → IfOk (with_schedule n (record { sessions = sessions; turns = turns })) (Keeps grammar)
with_schedule_keeps grammar n sessions (Some ts) keeps = tt
with_schedule_keeps grammar n sessions None keeps = record { meets = keeps.meets; uses = keeps.uses }

-- a turn more
turn_added : (grammar : Grammar) (sessions : List SessionText) (ts : List Turn) (t : Turn)
    → Keeps grammar (record { sessions = sessions; turns = Some ts })
    → IsTurnAmong (length sessions) t → grammar.schedule ≡ true
    → calls_and_turns (record { sessions = sessions; schedule = ts }) < MOST_CALLS
    → Keeps grammar (record { sessions = sessions; turns = Some (ts ++ t ∷ []) })
turn_added grammar sessions ts t keeps among accepted room =
    let more = length-append ts (t ∷ []) in
    record {
      meets = record {
        few_sessions = keeps.meets.few_sessions;
        few_calls = omega arith;
        sessions = keeps.meets.sessions;
        apart = keeps.meets.apart;
        turns = all_push (IsTurnAmong (length sessions)) ts t keeps.meets.turns among;
      };
      uses = record
          { first = keeps.uses.first; further = keeps.uses.further; calls = keeps.uses.calls; turns = λ _. accepted };
    }

-- a turn's line
with_turn_keeps : (grammar : Grammar) (n : ℕ) (sessions : List SessionText) (turns : Option (List Turn)) (t : Turn)
    → Keeps grammar (record { sessions = sessions; turns = turns })
    → IsTurnAmong (length sessions) t → grammar.schedule ≡ true
    → IfOk (with_turn n (record { sessions = sessions; turns = turns }) t) (Keeps grammar)
with_turn_keeps grammar n sessions None t keeps among accepted = tt
with_turn_keeps grammar n sessions (Some ts) t keeps among accepted =
    cond_both (has_room (record { sessions = sessions; turns = Some ts })) _ _ (λ r. IfOk r (Keeps grammar))
    (λ room. turn_added grammar sessions ts t keeps among accepted (ltb-true _ _ room))
    (λ _. tt)

-- a step's line, once its session is looked for
step_keeps : (grammar : Grammar) (n : ℕ) (w : Draft) (found : Option ℕ) → Keeps grammar w
    → ((who : ℕ) → found ≡ Some who → who < length w.sessions) → grammar.schedule ≡ true
    → IfOk (elim found [ None ↦ Err (NoSession n) | Some who ↦ with_turn n w (turn.Step who) ]) (Keeps grammar)
step_keeps grammar n w None keeps within accepted = tt
step_keeps grammar n w (Some who) keeps within accepted =
    with_turn_keeps grammar n w.sessions w.turns (turn.Step who) keeps (within who refl) accepted

-- a session that is found is there
found_within : (sessions : List SessionText) (name : List ℕ) (who : ℕ)
    → position (λ s. same_name name s.name) sessions ≡ Some who → who < length sessions
found_within sessions name who h =
    (position-Some (λ s. same_name name s.name) sessions who (record { name = []; lines = [] }) h).0

with_step_keeps : (grammar : Grammar) (n : ℕ) (w : Draft) (name : List ℕ) → Keeps grammar w → grammar.schedule ≡ true
    → IfOk (with_step n w name) (Keeps grammar)
with_step_keeps grammar n w name keeps accepted =
    cond_both (not (is_some w.turns)) _ _ (λ r. IfOk r (Keeps grammar)) (λ _. tt)
    (λ _. step_keeps grammar n w (session_number name w) keeps (found_within w.sessions name) accepted)

-- ---- Lines

-- what a line says
with_said_keeps : (grammar : Grammar) (n : ℕ) (w : Draft) (o : Option ScriptLine) → Keeps grammar w
    → IfSome o (Says grammar) → IfOk (with_said grammar n w o) (Keeps grammar)
with_said_keeps grammar n w None keeps says = tt
with_said_keeps grammar n w (Some (line.Session name)) keeps says =
    with_session_keeps grammar n w.sessions w.turns name keeps says
with_said_keeps grammar n w (Some (line.Call c)) keeps says = with_call_keeps grammar n w c keeps says.0 says.1
with_said_keeps grammar n w (Some line.Schedule) keeps says = with_schedule_keeps grammar n w.sessions w.turns keeps
with_said_keeps grammar n w (Some (line.Step name)) keeps says = with_step_keeps grammar n w name keeps says
with_said_keeps grammar n w (Some line.Begin) keeps says =
    with_turn_keeps grammar n w.sessions w.turns turn.Begin keeps tt says
with_said_keeps grammar n w (Some line.End) keeps says =
    with_turn_keeps grammar n w.sessions w.turns turn.End keeps tt says

-- a skipped line keeps what stands, and so does one that is read
read_keeps : (grammar : Grammar) (skipped long : Bool) (n : ℕ) (w : Draft) (r : Result Draft ScriptFault)
    → Keeps grammar w → IfOk r (Keeps grammar)
    → IfOk (if skipped then Ok w else if long then Err (BadLine n) else r) (Keeps grammar)
read_keeps grammar true long n w r keeps read = keeps
read_keeps grammar false true n w r keeps read = tt
read_keeps grammar false false n w r keeps read = read

-- a line
with_line_keeps : (grammar : Grammar) (n : ℕ) (w : Draft) (text : List ℕ) → Keeps grammar w
    → IfOk (with_line grammar n w text) (Keeps grammar)
unfolding with_line
with_line_keeps grammar n w text keeps =
    let said = words (bare text) in
    read_keeps grammar (is_skipped said) (nat_lt LONGEST_LINE (length (bare text))) n w
    (with_said grammar n w (line_of grammar said)) keeps
    (with_said_keeps grammar n w (line_of grammar said) keeps (line_of_Says grammar said))

-- all lines
with_lines_keeps : (grammar : Grammar) (n : ℕ) (w : Draft) (texts : List (List ℕ)) → Keeps grammar w
    → IfOk (with_lines grammar n w texts) (Keeps grammar)
with_lines_keeps grammar n w [] keeps = keeps
with_lines_keeps grammar n w (text ∷ texts) keeps =
    bind_keeps (Keeps grammar) (Keeps grammar) (with_line grammar n w text)
    (λ more. with_lines grammar (n + 1) more texts) (with_line_keeps grammar n w text keeps)
    (λ more kept. with_lines_keeps grammar (n + 1) more texts kept)

nothing_keeps : (grammar : Grammar) → Keeps grammar nothing
nothing_keeps grammar = record {
  meets = record { few_sessions = omega arith; few_calls = omega arith; sessions = tt; apart = tt; turns = tt };
  uses = record {
    first = λ some. absurd (omega arith);
    further = λ some. absurd (omega arith);
    calls = tt;
    turns =
        λ some. absurd (omega arith);
  };
}

-- what both laws say
record Lawful (grammar : Grammar) (s : Script) : Type 0 where
  meets : MeetsRules s
  uses : UsesGrammar grammar s

script_with_Lawful : (grammar : Grammar) (n : ℕ) (text : List ℕ) → IfOk (script_with grammar n text) (Lawful grammar)
unfolding script_with
script_with_Lawful grammar n text =
    bind_keeps (Keeps grammar) (Lawful grammar) (with_lines grammar n nothing (raw_lines text)) (λ w. Ok (script_in w))
    (with_lines_keeps grammar n nothing (raw_lines text) (nothing_keeps grammar))
    (λ w keeps. record { meets = keeps.meets; uses = keeps.uses })

-- a script that is read meets the rules
pub read_script_meets : (grammar : Grammar) (n : ℕ) (text : List ℕ) (s : Script) → script_with grammar n text ≡ Ok s
    → MeetsRules s
read_script_meets grammar n text s e =
    (subst (λ (r : Result Script ScriptFault). IfOk r (Lawful grammar)) e (script_with_Lawful grammar n text)).meets

-- and uses accepted forms alone
pub read_script_uses : (grammar : Grammar) (n : ℕ) (text : List ℕ) (s : Script) → script_with grammar n text ≡ Ok s
    → UsesGrammar grammar s
read_script_uses grammar n text s e =
    (subst (λ (r : Result Script ScriptFault). IfOk r (Lawful grammar)) e (script_with_Lawful grammar n text)).uses
