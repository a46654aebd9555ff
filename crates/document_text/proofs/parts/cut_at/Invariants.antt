use Rattle.std.proofs.Common.{length}
use Rattle.document_text.specs.Traced.{separates}
use Rattle.document_text.proofs.PartsLemmas.{Passed}
use Rattle.document_text.proofs.parts.cut_at.Given as goal

abbrev pub invariant-loop-rest : goal.invariant-loop-rest
invariant-loop-rest l = Passed (separates l.separator) l.bytes l.lines l.rest

abbrev pub decreases-loop-rest : goal.decreases-loop-rest
decreases-loop-rest l = length l.rest
