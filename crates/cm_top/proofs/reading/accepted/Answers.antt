use Rattle.std.proofs.Common.{◌≡◌}
use Rattle.cm_document.specs.declared.faults.DocumentFault.TheVariants as fault
use Rattle.cm_document.specs.Document.{document}
use Rattle.cm_document.specs.Grammars.{whole_grammar}
use Rattle.cm_top.proofs.BytesLemmas.{told_fault}
use Rattle.cm_top.proofs.ReadLemmas.{fault-ReadsBytes}
use Rattle.cm_top.proofs.reading.accepted.Goals as goal

-- a document that is not accepted has its first fault
pub returns-in-Err : goal.returns-in-Err
returns-in-Err c =
    rw c.from.ensures (fault-ReadsBytes c.args.bytes.now c.in-Err.fault c.requires
    (λ (other : c.in-Err.fault ≡ fault.Memory → ⊥).
    told_fault (document whole_grammar c.args.bytes.now) c.in-Err.fault other c.in-Err.ensures.reads)
    c.in-Err.ensures.plain)
