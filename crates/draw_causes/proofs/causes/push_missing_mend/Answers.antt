use Rattle.std.proofs.Common.{sym, ◌∙◌}
use Rattle.draw_causes.proofs.WordLemmas.{at_false}
use Rattle.draw_causes.proofs.causes.push_missing_mend.Goals as goal

pub returns-in_ok-write-2 : goal.returns-in_ok-write-2
returns-in_ok-write-2 c =
    at_false _ _ _ (sym c.is_reference_of.ensures ∙ c.if-is_reference_of.false) c.in_ok-write-2.ensures.bytes
