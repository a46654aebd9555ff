-- The same description, and the same document, of another version.
use Rattle.std.specs.Prelude.{ℕ}
use Rattle.cm_document.specs.declared.description.Description.{Description}
use Rattle.cm_document.specs.declared.document.Document.{Document}

-- the description of this version that is the same in all else
abbrev pub of_version : ℕ → Description → Description
of_version version d = record d { version = version }

-- a document whose description is that one
abbrev pub document_of_version : ℕ → Document → Document
document_of_version version document = record document { description = of_version version document.description }
