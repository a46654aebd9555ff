-- How calls and scripts print: single spaces, each number in its one spelling.
use Rattle.std.specs.Prelude.{ℕ, ℤ, List, [], ◌∷◌, ◌++◌, flat_map, slice_get, codes, decimal, option_map, unwrap_or}
use Rattle.fixed_num.specs.Text.{spelled}
use Rattle.cm_document.specs.declared.script.Verb.{Verb}
use Rattle.cm_document.specs.declared.script.Verb.TheVariants as verb
use Rattle.cm_document.specs.Vocabulary.{life_word, verb_word, strictness_word}
use Rattle.cm_document.specs.declared.call.Call.{Call}
use Rattle.cm_document.specs.declared.call.Call.TheVariants as call
use Rattle.cm_document.specs.declared.call.Mail.{Mail}
use Rattle.cm_document.specs.declared.call.Mail.TheVariants.{Values, Points}
use Rattle.cm_document.specs.declared.call.Pick.{Pick}
use Rattle.cm_document.specs.declared.call.Pick.TheVariants.{One, Group}
use Rattle.cm_document.specs.declared.call.Point2.{Point2}
use Rattle.cm_document.specs.declared.call.SwitchRequest.{SwitchRequest}
use Rattle.cm_document.specs.declared.script.Script.{Script}
use Rattle.cm_document.specs.declared.script.SessionText.{SessionText}
use Rattle.cm_document.specs.declared.script.Turn.{Turn}
use Rattle.cm_document.specs.declared.script.Turn.TheVariants as turn

-- ---- Calls

-- values, each after a space
abbrev pub values_text : List ℤ → List ℕ
values_text values = flat_map (λ v. codes " " ++ spelled v) values

-- a timed point: its time after an `@`, then its values
abbrev pub point_text : Point2 → List ℕ
point_text p = codes " @" ++ decimal p.at_us ++ values_text p.values

-- what is sent
abbrev pub mail_text : Mail → List ℕ
mail_text (Values values) = values_text values
mail_text (Points points) = flat_map point_text points

-- a controller by its name, or a group by its name after an `@`
abbrev pub pick_text : Pick → List ℕ
pick_text (One name) = name
pick_text (Group name) = codes "@" ++ name

-- picks, each after a space and this sign
abbrev pub signed_text : List ℕ → List Pick → List ℕ
signed_text sign picks = flat_map (λ pick. codes " " ++ sign ++ pick_text pick) picks

-- a switch: those to deactivate before those to activate
abbrev pub switch_text : SwitchRequest → List ℕ
switch_text r =
    verb_word verb.Switch ++ codes " " ++ strictness_word r.strict ++ signed_text (codes "-") r.off
    ++ signed_text (codes "+") r.on

-- a verb and what it is asked of, with a space between
abbrev pub asked : Verb → List ℕ → List ℕ
asked v rest = verb_word v ++ codes " " ++ rest

-- a call, as a line of a script says it; and the loop's calls with the number of the cycle
abbrev pub call_text : Call → List ℕ
call_text (call.Load name) = asked verb.Load name
call_text (call.Configure name) = asked verb.Configure name
call_text (call.Cleanup name) = asked verb.Cleanup name
call_text (call.Unload name) = asked verb.Unload name
call_text (call.Rate name hz) = asked verb.Rate (name ++ codes " " ++ decimal hz)
call_text (call.Send name mail) = asked verb.Send (name ++ mail_text mail)
call_text (call.Switch request) = switch_text request
call_text (call.Hardware component target) = asked verb.Hardware (component ++ codes " " ++ life_word target)
call_text (call.Told ticket) = codes "told " ++ decimal ticket
call_text (call.Await cycles) = asked verb.Await (decimal cycles)
call_text call.ListControllers = asked verb.List (codes "controllers")
call_text call.ListInterfaces = asked verb.List (codes "interfaces")
call_text call.ListComponents = asked verb.List (codes "components")
call_text (call.Begin cycle) = asked verb.Begin (decimal cycle)
call_text (call.End cycle) = asked verb.End (decimal cycle)
call_text call.Close = codes "close"

-- ---- Scripts

-- a session's line, then a line for each call
abbrev pub session_text : SessionText → List ℕ
session_text s = asked verb.Session s.name ++ codes "\n" ++ flat_map (λ c. call_text c ++ codes "\n") s.lines

-- the name of a session by its number
abbrev pub session_name : List SessionText → ℕ → List ℕ
session_name sessions who = unwrap_or (option_map (λ s. s.name) (slice_get sessions who)) []

-- a turn's line
abbrev pub turn_text : List SessionText → Turn → List ℕ
turn_text sessions (turn.Step who) = asked verb.Step (session_name sessions who) ++ codes "\n"
turn_text sessions turn.Begin = verb_word verb.Begin ++ codes "\n"
turn_text sessions turn.End = verb_word verb.End ++ codes "\n"

-- the schedule, where there are turns
abbrev pub schedule_text : List SessionText → List Turn → List ℕ
schedule_text sessions [] = []
schedule_text sessions (t ∷ ts) = verb_word verb.Schedule ++ codes "\n" ++ flat_map (turn_text sessions) (t ∷ ts)

-- a script: its sessions, then its schedule
unfoldable pub script_text : Script → List ℕ
script_text s = flat_map session_text s.sessions ++ schedule_text s.sessions s.schedule
