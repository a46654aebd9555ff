use Rattle.std.proofs.Common.{sym, ◌∙◌}
use Rattle.cm_document.specs.Described.{description_form}
use Rattle.desc_text.proofs.read.top.Goals as goal

pub returns-then-is_second : goal.returns-then-is_second
unfolding description_form
returns-then-is_second c = rw (sym c.is_second.ensures ∙ c.if-is_second.true) c.second.ensures

pub returns-else-is_second : goal.returns-else-is_second
unfolding description_form
returns-else-is_second c = rw (sym c.is_second.ensures ∙ c.if-is_second.false) c.first.ensures
