use Rattle.std.proofs.Common.{sym, ◌∙◌}
use Rattle.draw_causes.proofs.WordLemmas.{at_true, at_false}
use Rattle.draw_causes.proofs.causes.push_missing.Goals as goal

pub returns-in_ok-write : goal.returns-in_ok-write
returns-in_ok-write c =
    at_true _ _ _ (sym c.is_reference_of.ensures ∙ c.if-is_reference_of.true) c.in_ok-write.ensures.bytes

pub returns-in_ok-write-2 : goal.returns-in_ok-write-2
returns-in_ok-write-2 c =
    at_false _ _ _ (sym c.is_reference_of.ensures ∙ c.if-is_reference_of.false) c.in_ok-write-2.ensures.bytes
