-- What one line makes of a replay, and all lines.
use Rattle.std.specs.Prelude.{◌≡◌, ℕ, ◌≤◌, ◌==◌, nat_lt, Bool, true, if◌then◌else◌, List, [], ◌∷◌, ◌++◌, length, take}
use Rattle.std.specs.Prelude.{Option, Some, None, IfSome}
use Rattle.std.specs.List.{list_any}
use Rattle.iface_names.specs.Names.{same_name}
use Rattle.cm_document.specs.Lines.{raw_lines}
use Rattle.cm_document.specs.declared.description.Description.{Description}
use Rattle.cm_document.specs.declared.document.Document.{Document}
use Rattle.cm_document.specs.declared.script.Turn.TheVariants as turn
use Rattle.cm_model.specs.Scheduled.{Progress, turned}
use Rattle.cm_model.specs.Trace.{loaded_by}
use Rattle.cm_model.specs.declared.blanks.Blanks.{Blanks}
use Rattle.cm_model.specs.declared.entry.Entry.{Entry}
use Rattle.desk_turns.specs.Jobs.{JobFacts, GoesOn, looped_on}
use Rattle.trace_check.specs.Checks.{judged_by}
use Rattle.trace_check.specs.Standing.{StandsAt, KnowsNames}
use Rattle.trace_check.specs.declared.fault.WrongLine.{WrongLine}
use Rattle.trace_laws.specs.Judged.{judged, told_before, told_by}
use Rattle.trace_laws.specs.Next.{expected_at}
use Rattle.trace_text.specs.OneByOne.{LinesFacts, with_controller}

-- ---- A call

-- the caller of this number makes its next call, if that is enabled
abbrev pub made_next : ℕ → Progress → Progress
made_next who progress =
    if who == progress.state.sessions then looped_on progress else turned (turn.Step who) progress

-- It made its next call, or else it could not.
pub record HasMadeNext (made : Bool) (who : ℕ) (old new : JobFacts) : Type 0 where
  pub moved : GoesOn (made_next who) old new
  pub told : made ≡ nat_lt (length old.desk.made) (length new.desk.made)

-- ---- A line

-- the controller that an entry loaded is described
abbrev pub IsDescribed : Description → Entry → Type 0
IsDescribed d e =
    IfSome (loaded_by e.call e.reply) (λ name. list_any (λ c. same_name c.name name) d.controllers ≡ true)

-- the controller that an entry loaded, if it loaded one, has its name from then on
abbrev pub named_by : Option (List ℕ) → LinesFacts → LinesFacts
named_by None lines = lines
named_by (Some name) lines = with_controller lines name

abbrev pub with_load : LinesFacts → Entry → LinesFacts
with_load lines e = named_by (loaded_by e.call e.reply) lines

-- A line was replayed behind the history of this job: it told an entry, which the job has made; or it is wrong, and
-- that was to come in its place.
abbrev pub HasReplayedLine : Document → Blanks → List ℕ → JobFacts → JobFacts → LinesFacts → Option (List ℕ)
    → Type 0
HasReplayedLine document blanks line old new lines None =
    (e : Entry) × (told_by document blanks old.desk.made line ≡ Some e)
    × StandsAt document blanks (old.desk.made ++ e ∷ []) new
    × KnowsNames document (old.desk.made ++ e ∷ []) lines
HasReplayedLine document blanks line old new lines (Some expected) =
    (told_by document blanks old.desk.made line ≡ None)
    × (expected ≡ expected_at document blanks old.desk.made line)
    × (take (length old.desk.made) new.desk.made ≡ old.desk.made)

-- ---- All lines

-- The lines of a text were replayed: so many told an entry, and this one is wrong, if one is.
pub record HasReplayedLines (document : Document) (blanks : Blanks) (text : List ℕ) (job : JobFacts) (told : ℕ)
    (wrong : Option WrongLine) : Type 0 where
  pub within : told ≤ length job.desk.made
  pub told_is : take told job.desk.made ≡ told_before document blanks [] (raw_lines text)
  pub judged_so : judged_by wrong ≡ judged document blanks text
