-- The rules of a script, line by line, and its first bad line.
use Rattle.std.specs.Prelude.{ℕ, ◌+◌, ◌==◌, Bool, true, not, ◌&&◌, nat_lt, nat_le, if◌then◌else◌, List, [], ◌∷◌, ◌++◌}
use Rattle.std.specs.Prelude.{length, sum_by, position, codes, Option, Some, None, is_some, option_map, unwrap_or}
use Rattle.std.specs.Prelude.{Result, Ok, Err}
use Rattle.std.specs.List.{list_any, list_all}
use Rattle.sequence.specs.Last.{in_last}
use Rattle.iface_names.specs.Names.{same_name}
use Rattle.cm_document.specs.declared.limits.TheConstants.{LONGEST_LINE, MOST_SESSIONS, MOST_CALLS, MOST_NAMES}
use Rattle.cm_document.specs.declared.limits.TheConstants.{MOST_POINTS, MOST_VALUES}
use Rattle.cm_document.specs.Reading.{◌>>=◌}
use Rattle.cm_document.specs.Lines.{raw_lines, bare, words, is_skipped}
use Rattle.cm_document.specs.LineGrammar.{line_of}
use Rattle.cm_document.specs.declared.call.Call.{Call}
use Rattle.cm_document.specs.declared.call.Call.TheVariants as call
use Rattle.cm_document.specs.declared.call.Mail.{Mail}
use Rattle.cm_document.specs.declared.call.Mail.TheVariants.{Values, Points}
use Rattle.cm_document.specs.declared.script.Grammar.{Grammar}
use Rattle.cm_document.specs.declared.script.Script.{Script}
use Rattle.cm_document.specs.declared.script.ScriptLine.{ScriptLine}
use Rattle.cm_document.specs.declared.script.ScriptLine.TheVariants as line
use Rattle.cm_document.specs.declared.script.SessionText.{SessionText}
use Rattle.cm_document.specs.declared.script.Turn.{Turn}
use Rattle.cm_document.specs.declared.script.Turn.TheVariants as turn
use Rattle.cm_document.specs.declared.faults.ScriptFault.{ScriptFault}
use Rattle.cm_document.specs.declared.faults.ScriptFault.TheVariants.{BadLine, NoSession, TooMany}

-- What stands after some lines: the sessions, of which the last takes the calls, and the turns once `schedule` stands.
pub record Draft : Type 0 where
  pub sessions : List SessionText
  pub turns : Option (List Turn)

-- nothing stands yet
abbrev pub nothing : Draft
nothing = record { sessions = []; turns = None }

-- the script of what stands
abbrev pub script_in : Draft → Script
script_in w = record { sessions = w.sessions; schedule = unwrap_or w.turns [] }

-- how many calls and turns a script has
abbrev pub calls_and_turns : Script → ℕ
calls_and_turns s = sum_by (λ t. length t.lines) s.sessions + length s.schedule

-- there is room for one call or turn more
abbrev pub has_room : Draft → Bool
has_room w = nat_lt (calls_and_turns (script_in w)) MOST_CALLS

-- ---- Sessions

-- a session of this name is there
abbrev pub is_used : List ℕ → Draft → Bool
is_used name w = list_any (λ s. same_name name s.name) w.sessions

-- a session's line is accepted as the first one, or as a further one
abbrev pub session_accepted : Grammar → Draft → Bool
session_accepted grammar w = if length w.sessions == 0 then grammar.first_session else grammar.further_session

-- A session has a new name, which is not `loop`; it stands before the schedule.
abbrev pub is_session_line : Grammar → Draft → List ℕ → Bool
is_session_line grammar w name =
    ((session_accepted grammar w && not (is_some w.turns)) && not (same_name name (codes "loop")))
    && not (is_used name w)

-- a session begins, where there are not the most that there may be
abbrev pub with_session : Grammar → ℕ → Draft → List ℕ → Result Draft ScriptFault
with_session grammar number w name =
    if not (is_session_line grammar w name) then Err (BadLine number)
    else if nat_le MOST_SESSIONS (length w.sessions) then Err (TooMany number)
    else Ok (record w { sessions = w.sessions ++ record { name = name; lines = [] } ∷ [] })

-- ---- Calls

-- a plain list, and each point, has only so many values, and there are only so many points
abbrev pub mail_fits : Mail → Bool
mail_fits (Values values) = nat_le (length values) MOST_VALUES
mail_fits (Points points) =
    nat_le (length points) MOST_POINTS && list_all (λ p. nat_le (length p.values) MOST_VALUES) points

-- a switch has only so many names
abbrev pub call_fits : Call → Bool
call_fits (call.Send name mail) = mail_fits mail
call_fits (call.Switch request) = nat_le (length request.on + length request.off) MOST_NAMES
call_fits _ = true

-- a session with this call behind its others
abbrev pub then_calling : Call → SessionText → SessionText
then_calling made s = record s { lines = s.lines ++ made ∷ [] }

-- a call stands before the schedule, and is the last session's
abbrev pub with_call : ℕ → Draft → Call → Result Draft ScriptFault
with_call number w made =
    if is_some w.turns then Err (BadLine number)
    else if length w.sessions == 0 then Err (NoSession number)
    else if has_room w && call_fits made then Ok (record w { sessions = in_last (then_calling made) w.sessions })
    else Err (TooMany number)

-- ---- The schedule

-- the schedule begins once
abbrev pub with_schedule : ℕ → Draft → Result Draft ScriptFault
with_schedule number w = if is_some w.turns then Err (BadLine number) else Ok (record w { turns = Some [] })

-- a turn stands behind `schedule`
abbrev pub with_turn : ℕ → Draft → Turn → Result Draft ScriptFault
with_turn number w t =
    if not (is_some w.turns) then Err (BadLine number)
    else if has_room w then Ok (record w { turns = option_map (λ ts. ts ++ t ∷ []) w.turns })
    else Err (TooMany number)

-- the number of the session of this name
abbrev pub session_number : List ℕ → Draft → Option ℕ
session_number name w = position (λ s. same_name name s.name) w.sessions

-- a step of a session that is there
abbrev pub with_step : ℕ → Draft → List ℕ → Result Draft ScriptFault
with_step number w name =
    if not (is_some w.turns) then Err (BadLine number)
    else elim (session_number name w) [ None ↦ Err (NoSession number) | Some who ↦ with_turn number w (turn.Step who) ]

-- ---- Lines

-- what stands after what a line says; a line that says nothing is bad
abbrev pub with_said : Grammar → ℕ → Draft → Option ScriptLine → Result Draft ScriptFault
with_said grammar number w None = Err (BadLine number)
with_said grammar number w (Some (line.Session name)) = with_session grammar number w name
with_said grammar number w (Some (line.Call made)) = with_call number w made
with_said grammar number w (Some line.Schedule) = with_schedule number w
with_said grammar number w (Some (line.Step name)) = with_step number w name
with_said grammar number w (Some line.Begin) = with_turn number w turn.Begin
with_said grammar number w (Some line.End) = with_turn number w turn.End

-- What stands after a line of this number: a skipped line changes nothing; one that is longer than a line may be is
-- bad.
unfoldable pub with_line : Grammar → ℕ → Draft → List ℕ → Result Draft ScriptFault
with_line grammar number w text =
    let said = words (bare text) in
    if is_skipped said then Ok w
    else if nat_lt LONGEST_LINE (length (bare text)) then Err (BadLine number)
    else with_said grammar number w (line_of grammar said)

-- what stands after all lines, of which the first has this number; the first bad one ends the reading
abbrev pub with_lines : Grammar → ℕ → Draft → List (List ℕ) → Result Draft ScriptFault
with_lines grammar number w [] = Ok w
with_lines grammar number w (text ∷ texts) =
    with_line grammar number w text >>= λ more. with_lines grammar (number + 1) more texts

-- the script that a text is, whose first line has this number in the document, or its first bad line
unfoldable pub script_with : Grammar → ℕ → List ℕ → Result Script ScriptFault
script_with grammar first_line text = with_lines grammar first_line nothing (raw_lines text) >>= λ w. Ok (script_in w)
