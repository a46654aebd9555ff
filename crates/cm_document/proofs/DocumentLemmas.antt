-- What holds of every accepted document.
use Rattle.std.proofs.Common.{◌≡◌, ℕ, List, Result, Ok, Err}
use Rattle.cm_document.specs.Reading.{◌>>=◌, fault_as}
use Rattle.cm_document.specs.Described.{tree_of, description_in}
use Rattle.cm_document.specs.Valid.{IsValid}
use Rattle.cm_document.specs.Lines.{Parts, parts_of}
use Rattle.cm_document.specs.Document.{accepted_description, accepted_script, document_of, document}
use Rattle.cm_document.specs.declared.description.Description.{Description}
use Rattle.cm_document.specs.declared.document.Document.{Document}
use Rattle.cm_document.specs.declared.faults.DescProblem.{DescProblem}
use Rattle.cm_document.specs.declared.faults.DescProblem.TheVariants.{Text, Check}
use Rattle.cm_document.specs.declared.faults.ScriptFault.{ScriptFault}
use Rattle.cm_document.specs.declared.faults.DocumentFault.TheVariants as fault
use Rattle.cm_document.specs.declared.script.Grammar.{Grammar}
use Rattle.cm_document.specs.declared.script.Script.{Script}
use Rattle.cm_document.proofs.ReadingLemmas.{bind_Ok}
use Rattle.cm_document.proofs.ValidLemmas.{read_IsDescribed, checked_IsValid}

-- what is told as another fault has the same value
fault_as_value : {A E F : Type 0} (f : E → F) (r : Result A E) (x : A) → fault_as f r ≡ Ok x → r ≡ Ok x
fault_as_value f (Ok y) x e = cc
fault_as_value f (Err fault) x e = cc

-- an accepted description is valid
accepted_description-IsValid : (bytes : List ℕ) (d : Description) → accepted_description bytes ≡ Ok d → IsValid d
unfolding accepted_description
accepted_description-IsValid bytes d e =
    let read = bind_Ok (fault_as Text (description_in (tree_of bytes))) _ d e in
    let described = read_IsDescribed (tree_of bytes) read.0 (fault_as_value Text _ read.0 read.1) in
    checked_IsValid read.0 d described (fault_as_value Check _ d read.2)

-- The description of these parts is accepted, and so is their script.
pub record AcceptedParts (grammar : Grammar) (parts : Parts) (d : Document) : Type 0 where
  pub description : accepted_description parts.description ≡ Ok d.description
  pub script : accepted_script grammar parts.lines parts.script ≡ Ok d.script

-- from a reading that came to a document, its parts
joined : (description : Result Description DescProblem) (script : Result Script ScriptFault) (d : Document)
    → (fault_as fault.Description description >>= λ x. fault_as fault.Script script >>= λ y. Ok
    (record { description = x; script = y })) ≡ Ok d
    → (description ≡ Ok d.description) × (script ≡ Ok d.script)
joined (Err p) script d e = cc
joined (Ok x) (Err f) d e = cc
joined (Ok x) (Ok y) d e = (cc, cc)

document_of-AcceptedParts : (grammar : Grammar) (parts : Parts) (d : Document) → document_of grammar parts ≡ Ok d
    → AcceptedParts grammar parts d
unfolding document_of
document_of-AcceptedParts grammar parts d e =
    let both = joined (accepted_description parts.description) (accepted_script grammar parts.lines parts.script) d e in
    record { description = both.0; script = both.1 }

-- the parts of an accepted document are accepted
pub document-AcceptedParts : (grammar : Grammar) (bytes : List ℕ) (d : Document) → document grammar bytes ≡ Ok d
    → AcceptedParts grammar (parts_of bytes) d
document-AcceptedParts grammar bytes d e = document_of-AcceptedParts grammar (parts_of bytes) d e

-- the description of an accepted document is valid
pub document-IsValid : (grammar : Grammar) (bytes : List ℕ) (d : Document) → document grammar bytes ≡ Ok d
    → IsValid d.description
document-IsValid grammar bytes d e =
    accepted_description-IsValid (parts_of bytes).description d.description
    (document-AcceptedParts grammar bytes d e).description
