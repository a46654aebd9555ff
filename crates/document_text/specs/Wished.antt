-- Documents of plans: the script has one session with one call, a strict switch that activates controllers by their
-- names.
use Rattle.std.specs.Prelude.{ℕ, ◌+◌, ◌==◌, Bool, false, not, ◌&&◌, if◌then◌else◌, List, [], ◌∷◌, length, Option}
use Rattle.std.specs.Prelude.{Some, None, Result, Ok, Err}
use Rattle.std.specs.List.{list_any}
use Rattle.cm_document.specs.Document.{document}
use Rattle.cm_document.specs.Grammars.{whole_grammar}
use Rattle.cm_document.specs.Lines.{raw_lines, Parts, parts_of}
use Rattle.cm_document.specs.Picks.{is_group, picked_names}
use Rattle.cm_document.specs.Reading.{◌>>=◌, fault_as}
use Rattle.cm_document.specs.declared.call.Call.{Call}
use Rattle.cm_document.specs.declared.call.Call.TheVariants as call
use Rattle.cm_document.specs.declared.document.Document.{Document}
use Rattle.cm_document.specs.declared.faults.DocumentFault.{DocumentFault}
use Rattle.cm_document.specs.declared.faults.DocumentFault.TheVariants as fault
use Rattle.cm_document.specs.declared.faults.ScriptFault.{ScriptFault}
use Rattle.cm_document.specs.declared.faults.ScriptFault.TheVariants.{BadLine}
use Rattle.cm_document.specs.declared.script.Script.{Script}
use Rattle.cm_document.specs.declared.script.ScriptLine.{ScriptLine}
use Rattle.cm_document.specs.declared.script.ScriptLine.TheVariants as line
use Rattle.cm_document.specs.declared.script.SessionText.{SessionText}
use Rattle.document_text.specs.declared.wish.Stage.{Stage}
use Rattle.document_text.specs.declared.wish.Stage.TheVariants as stage
use Rattle.script_text.specs.Said.{said_by}

-- ---- What breaks such a script

-- the call is a wish: a strict switch that deactivates nothing and names no group
abbrev pub is_wish : Call → Bool
is_wish (call.Switch request) = (request.strict && length request.off == 0) && not (list_any is_group request.on)
is_wish _ = false

-- where such a script stands behind what a line says, if it may go on so: its session begins,
abbrev pub opened_by : ScriptLine → Option Stage
opened_by (line.Session name) = Some stage.Opened
opened_by _ = None

-- and then asks
abbrev pub asked_by : ScriptLine → Option Stage
asked_by (line.Call made) = if is_wish made then Some stage.Asked else None
asked_by _ = None

abbrev pub stage_after : Stage → ScriptLine → Option Stage
stage_after stage.Bare says = opened_by says
stage_after stage.Opened says = asked_by says
stage_after stage.Asked says = None

-- where it stands behind a line of this number; one that says nothing is passed over
abbrev pub stage_behind : ℕ → Stage → Option ScriptLine → Result Stage ScriptFault
stage_behind number before None = Ok before
stage_behind number before (Some says) =
    elim (stage_after before says) [ None ↦ Err (BadLine number) | Some next ↦ Ok next ]

-- the script ends in front of this number: it must have asked
abbrev pub wish_ends : ℕ → Stage → Result (Unit {0}) ScriptFault
wish_ends number stage.Asked = Ok tt
wish_ends number _ = Err (BadLine number)

-- The lines that are left, of which the first has this number, make such a script. Else the first is bad that breaks
-- it, or the one behind the last if nothing was asked.
abbrev pub wishes_from : ℕ → Stage → List (List ℕ) → Result (Unit {0}) ScriptFault
wishes_from number before [] = wish_ends number before
wishes_from number before (text ∷ texts) =
    stage_behind number before (said_by text) >>= λ next. wishes_from (number + 1) next texts

-- the script of these parts is such a one
abbrev pub wishes_in : Parts → Result (Unit {0}) ScriptFault
wishes_in parts =
    elim parts.script [ None ↦ Ok tt | Some text ↦ wishes_from (parts.lines + 2) stage.Bare (raw_lines text) ]

-- The document that these bytes are for a plan, or its first fault: what breaks a script of a plan counts behind all
-- else.
unfoldable pub wished : List ℕ → Result Document DocumentFault
wished bytes =
    document whole_grammar bytes >>= λ d. fault_as fault.Script (wishes_in (parts_of bytes)) >>= λ _. Ok d

-- ---- Who is wanted

-- the names that the first of these calls is to activate
abbrev pub named_first : List Call → List (List ℕ)
named_first (call.Switch request ∷ calls) = picked_names request.on
named_first _ = []

-- those of the first session
abbrev pub wanted_of : List SessionText → List (List ℕ)
wanted_of [] = []
wanted_of (session ∷ sessions) = named_first session.lines

-- the names that a plan's script wants
abbrev pub wanted_in : Script → List (List ℕ)
wanted_in script = wanted_of script.sessions
