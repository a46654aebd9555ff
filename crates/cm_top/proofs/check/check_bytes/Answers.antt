use Rattle.std.proofs.Common.{arith}
use Rattle.std.proofs.KnownBytes.{Keeps-refl}
use Rattle.cm_top.specs.Answering.{checking}
use Rattle.cm_top.proofs.BytesLemmas.{given_answered, fault_answered, fault_minds_sink}
use Rattle.cm_top.proofs.check.check_bytes.Goals as goal

-- what was read is no longer than a document may be
pub check_document-requires : goal.check_document-requires
check_document-requires g c = (omega (arith, c.in-Ok.ensures.keeps.1, c.requires), c.in-Ok.ensures.keeps.0)

-- an accepted document is judged by its trace
pub returns-in-Ok-clause-checks : goal.returns-in-Ok-clause-checks
returns-in-Ok-clause-checks g c =
    given_answered _ _ _ _ _ _ c.requires c.in-Ok.ensures.reads c.check_document.ensures.checked

-- another has its first fault, or for want of memory nothing is said of it
pub returns-in-Err-clause-checks : goal.returns-in-Err-clause-checks
returns-in-Err-clause-checks g c =
    rw c.from.ensures
    (fault_answered checking _ _ _ c.in-Err.fault c.requires c.in-Err.ensures.reads c.in-Err.ensures.plain
    (Keeps-refl _))

pub returns-in-Err-clause-outside : goal.returns-in-Err-clause-outside
returns-in-Err-clause-outside g c = rw c.from.ensures (fault_minds_sink _ c.in-Err.fault)
