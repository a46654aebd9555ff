use Rattle.std.proofs.Common.{sym, ◌∙◌}
use Rattle.cm_top.proofs.ReadLemmas.{bytes_Reads}
use Rattle.cm_top.proofs.reading.read.Goals as goal

-- what was read is all that the source told, and the document is that of its bytes
pub returns-in-Ok-clause-reads : goal.returns-in-Ok-clause-reads
returns-in-Ok-clause-reads g c =
    let bytes = rw c.as_slice.ensures.value at c.accepted.ensures in
    bytes_Reads _ _ c.in-Ok.bytes.items c.accepted.result c.in-Ok.ensures.read.whole bytes

-- the source was read without a fault
pub returns-in-Ok-clause-outside : goal.returns-in-Ok-clause-outside
returns-in-Ok-clause-outside g c = record {
  read_fault = record {
    later = c.read_whole.ensures.cause.later;
    counted = λ failed. absurd (rw failed at c.accepted.ensures.of_bytes);
    uncounted = λ other. c.read_whole.ensures.cause.uncounted (λ failed. let no = sym c.in-Ok.is ∙ failed in cc);
  };
  read_at_most = c.read_whole.ensures.at_most;
}
