-- The script of an accepted document meets the rules of scripts.
use Rattle.std.proofs.Common.{◌≡◌, ℕ, ◌+◌, List, length, Option, Some, None, Ok, ap, subst, ◌∙◌}
use Rattle.std.specs.Prelude.{Err, Result}
use Rattle.cm_document.specs.Grammars.{whole_grammar}
use Rattle.cm_document.specs.Document.{accepted_description, accepted_script, document, document_of}
use Rattle.cm_document.specs.Lines.{parts_of, raw_lines}
use Rattle.cm_document.specs.Reading.{fault_as}
use Rattle.cm_document.specs.ScriptLaws.{MeetsRules, UsesGrammar}
use Rattle.cm_document.specs.declared.description.Description.{Description}
use Rattle.cm_document.specs.declared.document.Document.{Document}
use Rattle.cm_document.specs.declared.faults.DocumentFault.{DocumentFault}
use Rattle.cm_document.specs.declared.faults.DocumentFault.TheVariants as fault
use Rattle.cm_document.specs.declared.script.Script.{Script}
use Rattle.cm_document.proofs.DocumentLemmas.{document-AcceptedParts}
use Rattle.cm_document.proofs.ReadingLemmas.{bind_Ok}
use Rattle.script_text.proofs.ReadScriptLemmas.{read_script_meets, read_script_uses}
use Rattle.document_text.specs.Traced.{Given, trace_in, traced, with_trace, without_trace}

-- what an accepted script is
accepted_script-Rules : (lines : ℕ) (text : Option (List ℕ)) (s : Script)
    → accepted_script whole_grammar lines text ≡ Ok s → MeetsRules s × UsesGrammar whole_grammar s
accepted_script-Rules lines None s e = cc
accepted_script-Rules lines (Some text) s e =
    (read_script_meets whole_grammar (lines + 2) text s e, read_script_uses whole_grammar (lines + 2) text s e)

-- the script of an accepted document meets the rules, and the grammar has its lines
pub document-Rules : (bytes : List ℕ) (d : Document) → document whole_grammar bytes ≡ Ok d
    → MeetsRules d.script × UsesGrammar whole_grammar d.script
document-Rules bytes d accepted =
    let parts = parts_of bytes in
    accepted_script-Rules parts.lines parts.script d.script
    (document-AcceptedParts whole_grammar bytes d accepted).script

-- what is told as another fault has the same value
fault_value : {A E F : Type 0} (f : E → F) (r : Result A E) (x : A) → fault_as f r ≡ Ok x → r ≡ Ok x
fault_value f (Ok y) x same = cc
fault_value f (Err fault) x same = cc

given_document : (lines : ℕ) (o : Option (List ℕ)) (d : Document) (given : Given) → with_trace lines o d ≡ Ok given
    → d ≡ given.document
given_document lines None d given accepted = cc
given_document lines (Some trace) d given accepted =
    let same : record { document = d; trace = trace } ≡ given = cc in ap (λ (g : Given). g.document) same

-- the script of an accepted document with a trace meets the rules
pub traced-Rules : (bytes : List ℕ) (given : Given) → traced bytes ≡ Ok given → MeetsRules given.document.script
unfolding traced document_of
traced-Rules bytes given accepted =
    let parts = without_trace (parts_of bytes) in
    let read = bind_Ok (document_of whole_grammar parts)
    (λ d. with_trace (length (raw_lines bytes)) (trace_in (parts_of bytes)) d) given accepted in
    let same = given_document (length (raw_lines bytes)) (trace_in (parts_of bytes)) read.0 given read.2 in
    let described = bind_Ok (fault_as fault.Description (accepted_description parts.description)) _ read.0 read.1 in
    let said = bind_Ok (fault_as fault.Script (accepted_script whole_grammar parts.lines parts.script)) _ read.0
    described.2 in
    let rules = (accepted_script-Rules parts.lines parts.script said.0
    (fault_value fault.Script (accepted_script whole_grammar parts.lines parts.script) said.0 said.1)).0 in
    let script : said.0 ≡ given.document.script =
    script_of described.0 said.0 read.0 said.2 ∙ ap (λ (d : Document). d.script) same in
    subst MeetsRules script rules
  where
    script_of : (described : Description) (s : Script) (d : Document)
        → ◌≡◌ {A = Result Document DocumentFault} (Ok (record { description = described; script = s })) (Ok d)
        → s ≡ d.script
    script_of described s d made =
        let same : record { description = described; script = s } ≡ d = cc in ap (λ (each : Document). each.script) same
