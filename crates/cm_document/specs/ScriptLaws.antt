-- What every script keeps that was read; and a script that keeps it reads back from its text.
use Rattle.std.specs.Prelude.{◌≡◌, ℕ, ℤ, ◌+◌, ◌<◌, ◌≤◌, Bool, false, IsTrue, Ok, List, [], ◌∷◌, length, codes}
use Rattle.std.specs.List.{AllByRecursion}
use Rattle.fixed_num.specs.Micro.{IsInRange}
use Rattle.iface_names.specs.Names.{same_name}
use Rattle.cm_document.specs.Given.{IsName}
use Rattle.cm_document.specs.declared.limits.TheConstants.{HIGHEST_RATE, MOST_SESSIONS, MOST_CALLS, MOST_NAMES}
use Rattle.cm_document.specs.declared.limits.TheConstants.{MOST_POINTS, MOST_VALUES}
use Rattle.cm_document.specs.ScriptRules.{calls_and_turns, script_with}
use Rattle.cm_document.specs.declared.call.Call.{Call}
use Rattle.cm_document.specs.declared.call.Call.TheVariants as call
use Rattle.cm_document.specs.declared.call.Mail.{Mail}
use Rattle.cm_document.specs.declared.call.Mail.TheVariants.{Values, Points}
use Rattle.cm_document.specs.declared.call.Pick.{Pick}
use Rattle.cm_document.specs.declared.call.Pick.TheVariants.{One, Group}
use Rattle.cm_document.specs.declared.call.Point2.{Point2}
use Rattle.cm_document.specs.declared.call.SwitchRequest.{SwitchRequest}
use Rattle.cm_document.specs.declared.script.Grammar.{Grammar}
use Rattle.cm_document.specs.declared.script.Script.{Script}
use Rattle.cm_document.specs.declared.script.SessionText.{SessionText}
use Rattle.cm_document.specs.declared.script.Turn.{Turn}
use Rattle.cm_document.specs.declared.script.Turn.TheVariants as turn

-- ---- Calls

-- values for one controller: 1 to 32 numbers in the range
pub record AreValues (values : List ℤ) : Type 0 where
  pub some : 1 ≤ length values
  pub few : length values ≤ MOST_VALUES
  pub in_range : AllByRecursion IsInRange values

-- a point after this time: its own is later and has at most nine digits, and it has values
pub record IsPointAfter (before : ℕ) (p : Point2) : Type 0 where
  pub later : before < p.at_us
  pub soon : p.at_us ≤ 999999999
  pub valued : AreValues p.values

-- points after this time, each after the one before it
abbrev pub ArePointsAfter : ℕ → List Point2 → Type 0
ArePointsAfter before [] = Unit {0}
ArePointsAfter before (p ∷ ps) = IsPointAfter before p × ArePointsAfter p.at_us ps

-- 1 to 64 points, the first at 1 microsecond or later
pub record ArePoints (points : List Point2) : Type 0 where
  pub some : 1 ≤ length points
  pub few : length points ≤ MOST_POINTS
  pub rising : ArePointsAfter 0 points

-- values or points that can be sent
abbrev pub CanBeSent : Mail → Type 0
CanBeSent (Values values) = AreValues values
CanBeSent (Points points) = ArePoints points

-- a controller or a group is named by a name
abbrev pub IsPick : Pick → Type 0
IsPick (One name) = IsName name
IsPick (Group name) = IsName name

-- a switch of at most 128 words
pub record CanBeAsked (request : SwitchRequest) : Type 0 where
  pub few : length request.on + length request.off ≤ MOST_NAMES
  pub on : AllByRecursion IsPick request.on
  pub off : AllByRecursion IsPick request.off

-- A call that a line of a script can say, within its limits. What a session is told and the loop's calls have no line.
abbrev pub CanBeWritten : Call → Type 0
CanBeWritten (call.Load name) = IsName name
CanBeWritten (call.Configure name) = IsName name
CanBeWritten (call.Cleanup name) = IsName name
CanBeWritten (call.Unload name) = IsName name
CanBeWritten (call.Rate name hz) = IsName name × (hz ≤ HIGHEST_RATE)
CanBeWritten (call.Send name mail) = IsName name × CanBeSent mail
CanBeWritten (call.Switch request) = CanBeAsked request
CanBeWritten (call.Hardware component target) = IsName component
CanBeWritten (call.Await cycles) = cycles ≤ 999999999
CanBeWritten call.ListControllers = Unit {0}
CanBeWritten call.ListInterfaces = Unit {0}
CanBeWritten call.ListComponents = Unit {0}
CanBeWritten _ = ⊥

-- ---- Scripts

-- a session's name is a name, and not the loop's
pub record IsSession (s : SessionText) : Type 0 where
  pub named : IsName s.name
  pub not_loop : same_name s.name (codes "loop") ≡ false
  pub written : AllByRecursion CanBeWritten s.lines

-- no later session has the name of an earlier one
abbrev pub AreApart : List SessionText → Type 0
AreApart [] = Unit {0}
AreApart (s ∷ ss) = AllByRecursion (λ later. same_name later.name s.name ≡ false) ss × AreApart ss

-- a step is one of these sessions'
abbrev pub IsTurnAmong : ℕ → Turn → Type 0
IsTurnAmong sessions (turn.Step who) = who < sessions
IsTurnAmong sessions turn.Begin = Unit {0}
IsTurnAmong sessions turn.End = Unit {0}

-- A script has at most 8 sessions of different names, at most 10,000 calls and turns, calls that a line can say, and
-- steps of its own sessions.
pub record MeetsRules (s : Script) : Type 0 where
  pub few_sessions : length s.sessions ≤ MOST_SESSIONS
  pub few_calls : calls_and_turns s ≤ MOST_CALLS
  pub sessions : AllByRecursion IsSession s.sessions
  pub apart : AreApart s.sessions
  pub turns : AllByRecursion (IsTurnAmong (length s.sessions)) s.schedule

-- ---- Grammar

-- the grammar has the call's line
abbrev pub allows : Grammar → Call → Bool
allows grammar (call.Load name) = grammar.load
allows grammar (call.Configure name) = grammar.configure
allows grammar (call.Cleanup name) = grammar.cleanup
allows grammar (call.Unload name) = grammar.unload
allows grammar (call.Rate name hz) = grammar.rate
allows grammar (call.Send name mail) = grammar.send
allows grammar (call.Switch request) = grammar.switch
allows grammar (call.Hardware component target) = grammar.hardware
allows grammar (call.Await cycles) = grammar.await_cycles
allows grammar call.ListControllers = grammar.list_controllers
allows grammar call.ListInterfaces = grammar.list_interfaces
allows grammar call.ListComponents = grammar.list_components
allows grammar _ = false

-- A script has sessions, further sessions, calls and turns only where the grammar has their lines.
pub record UsesGrammar (grammar : Grammar) (s : Script) : Type 0 where
  pub first : 0 < length s.sessions → IsTrue grammar.first_session
  pub further : 1 < length s.sessions → IsTrue grammar.further_session
  pub calls : AllByRecursion (λ t. AllByRecursion (λ c. IsTrue (allows grammar c)) t.lines) s.sessions
  pub turns : 0 < length s.schedule → IsTrue grammar.schedule

-- A text reads back as the script, at whatever line it begins, where the script meets the rules and the grammar has its
-- lines.
abbrev pub ReadsBack : Script → List ℕ → Type 0
ReadsBack s text =
    (grammar : Grammar) (first_line : ℕ) → MeetsRules s → UsesGrammar grammar s
    → script_with grammar first_line text ≡ Ok s
