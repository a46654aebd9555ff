use Rattle.std.proofs.Common.{inr}
use Rattle.iface_names.proofs.PartsLemmas.{more_than_three}
use Rattle.iface_names.proofs.interface.IfaceName.read.Goals as goal

-- a fourth part
pub returns-in-Some-more-2 : goal.returns-in-Some-more-2
returns-in-Some-more-2 c =
    inr (more_than_three _ c.in-Some.more.now c.in-Some-more.more.now c.in-Some-more-2.field-0.now _ _ _
    (rw c.in-Some.is at c.first_part.ensures) (rw c.in-Some-more.is at c.first_part-2.ensures)
    (rw c.in-Some-more-2.is at c.first_part-3.ensures))
