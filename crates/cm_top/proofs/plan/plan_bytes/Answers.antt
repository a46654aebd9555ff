use Rattle.std.proofs.Common.{◌≡◌}
use Rattle.std.proofs.KnownBytes.{Keeps-refl}
use Rattle.cm_document.specs.declared.faults.DocumentFault.TheVariants as fault
use Rattle.cm_top.specs.Answering.{planning}
use Rattle.document_text.specs.Wished.{wished}
use Rattle.cm_top.proofs.AnswerLemmas.{taken_untraced, refused_untraced}
use Rattle.cm_top.proofs.BytesLemmas.{given_answered, fault_answered, fault_minds_sink, told_fault}
use Rattle.cm_top.proofs.plan.plan_bytes.Goals as goal

-- an accepted document is planned
pub returns-in-Ok-clause-plans : goal.returns-in-Ok-clause-plans
returns-in-Ok-clause-plans g c =
    given_answered _ _ _ _ _ _ c.requires (taken_untraced _ _ c.in-Ok.ensures.reads) c.plan_document.ensures.planned

-- another has its first fault, or for want of memory nothing is said of it
pub returns-in-Err-clause-plans : goal.returns-in-Err-clause-plans
returns-in-Err-clause-plans g c =
    let refused = λ (other : c.in-Err.fault ≡ fault.Memory → ⊥).
    refused_untraced _ _ (told_fault (wished c.args.bytes.now) c.in-Err.fault other c.in-Err.ensures.reads) in
    rw c.from.ensures
    (fault_answered planning _ _ _ c.in-Err.fault c.requires refused c.in-Err.ensures.plain (Keeps-refl _))

pub returns-in-Err-clause-outside : goal.returns-in-Err-clause-outside
returns-in-Err-clause-outside g c = rw c.from.ensures (fault_minds_sink _ c.in-Err.fault)
