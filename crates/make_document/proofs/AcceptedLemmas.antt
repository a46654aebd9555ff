-- A made document is accepted: its parts are, and each is what is meant.
use Rattle.std.proofs.Common.{◌≡◌, ℕ, ◌*◌, ◌≤◌, Some, Result, Ok, ap, ◌∙◌, arith}
use Rattle.cm_document.specs.Reading.{◌>>=◌, fault_as}
use Rattle.cm_document.specs.Grammars.{whole_grammar}
use Rattle.cm_document.specs.Document.{accepted_script, document_of, document}
use Rattle.cm_document.specs.declared.description.Description.{Description}
use Rattle.cm_document.specs.declared.faults.DescProblem.{DescProblem}
use Rattle.cm_document.specs.declared.faults.ScriptFault.{ScriptFault}
use Rattle.cm_document.specs.declared.script.Script.{Script}
use Rattle.cm_document.specs.declared.faults.DocumentFault.TheVariants as fault
use Rattle.make_document.specs.Made.{made, script_lines}
use Rattle.make_document.specs.Meant.{robot_meant, made_document}
use Rattle.make_document.proofs.DescriptionLemmas.{described}
use Rattle.make_document.proofs.PartsLemmas.{parts_are}
use Rattle.make_document.proofs.ScriptLemmas.{script_reads}

pub made_is_accepted : (rounds : ℕ) → rounds ≤ 1000 → document whole_grammar (made rounds) ≡ Ok (made_document rounds)
unfolding document_of
made_is_accepted rounds few =
    let m = 10 * rounds in
    let script = script_lines rounds in
    ap (document_of whole_grammar) (parts_are m script (omega arith))
    ∙ ap (λ (r : Result Description DescProblem). fault_as fault.Description r >>= λ description. fault_as fault.Script
    (accepted_script whole_grammar 78 (Some script)) >>= λ script. Ok
    (record { description = description; script = script })) (described m (omega arith))
    ∙ ap (λ (r : Result Script ScriptFault). fault_as fault.Script r >>= λ script. Ok
    (record { description = robot_meant m; script = script })) (script_reads rounds few)
