use Rattle.std.proofs.Common.{arith}
use Rattle.make_document.proofs.SizeLemmas.{made_is_short}
use Rattle.cm_top.proofs.reading.read_made.Goals as goal

-- a made document is short
pub accepted-requires : goal.accepted-requires
accepted-requires c = rw (c.as_slice.ensures.value, c.in-Ok.ensures) (made_is_short _ (omega (arith, c.requires)))

pub returns-in-Ok : goal.returns-in-Ok
returns-in-Ok c = rw (c.as_slice.ensures.value, c.in-Ok.ensures) at c.accepted.ensures
