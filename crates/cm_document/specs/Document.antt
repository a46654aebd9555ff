-- A whole document: a description, the separator, a script. Either all of it is accepted, or its first fault is told.
use Rattle.std.specs.Prelude.{ℕ, ◌+◌, List, Option, Some, None, Result, Ok, Err}
use Rattle.cm_document.specs.Reading.{◌>>=◌, fault_as}
use Rattle.cm_document.specs.Described.{tree_of, description_in}
use Rattle.cm_document.specs.Valid.{valid}
use Rattle.cm_document.specs.Lines.{Parts, parts_of}
use Rattle.cm_document.specs.ScriptRules.{script_with}
use Rattle.cm_document.specs.declared.description.Description.{Description}
use Rattle.cm_document.specs.declared.script.Grammar.{Grammar}
use Rattle.cm_document.specs.declared.script.Script.{Script}
use Rattle.cm_document.specs.declared.document.Document.{Document}
use Rattle.cm_document.specs.declared.faults.DescProblem.{DescProblem}
use Rattle.cm_document.specs.declared.faults.DescProblem.TheVariants.{Text, Check}
use Rattle.cm_document.specs.declared.faults.ScriptFault.{ScriptFault}
use Rattle.cm_document.specs.declared.faults.ScriptFault.TheVariants.{BadLine}
use Rattle.cm_document.specs.declared.faults.DocumentFault.{DocumentFault}
use Rattle.cm_document.specs.declared.faults.DocumentFault.TheVariants as fault

-- the description that these bytes are: read by the walk, and then checked
unfoldable pub accepted_description : List ℕ → Result Description DescProblem
accepted_description bytes =
    fault_as Text (description_in (tree_of bytes)) >>= λ described. fault_as Check (valid described)

-- The script after so many lines and a separator, by a grammar. Without a separator the line after the last is bad.
abbrev pub accepted_script : Grammar → ℕ → Option (List ℕ) → Result Script ScriptFault
accepted_script grammar lines None = Err (BadLine (lines + 1))
accepted_script grammar lines (Some text) = script_with grammar (lines + 2) text

-- the document of these parts by a grammar: the description's fault comes before the script's
unfoldable pub document_of : Grammar → Parts → Result Document DocumentFault
document_of grammar parts =
    fault_as fault.Description (accepted_description parts.description) >>= λ description.
    fault_as fault.Script (accepted_script grammar parts.lines parts.script) >>= λ script.
    Ok (record { description = description; script = script })

-- the document that these bytes are where its script may have the lines of this grammar, or its first fault
abbrev pub document : Grammar → List ℕ → Result Document DocumentFault
document grammar bytes = document_of grammar (parts_of bytes)
