-- Lines that are made one at a time.
use Rattle.std.specs.Prelude.{ℕ, List, [], ◌∷◌, ◌++◌}
use Rattle.cm_document.specs.declared.script.SessionText.{SessionText}
use Rattle.cm_model.specs.Items.{Names}
use Rattle.cm_model.specs.Trace.{line_text}
use Rattle.cm_model.specs.declared.entry.Entry.{Entry}

-- What lines are made of: the sessions, what stands for each number, and the line that was made last.
pub record LinesFacts : Type 0 where
  pub sessions : List SessionText
  pub names : Names
  pub line : List ℕ

-- the names, and behind those of the controllers this one
abbrev pub with_name : Names → List ℕ → Names
with_name names name = record names { controllers = names.controllers ++ name ∷ [] }

-- one controller more is loaded
abbrev pub with_controller : LinesFacts → List ℕ → LinesFacts
with_controller lines name = record lines { names = with_name lines.names name }

-- the line of this entry is the last one
abbrev pub with_line : LinesFacts → Entry → LinesFacts
with_line lines e = record lines { line = line_text lines.sessions lines.names e }
