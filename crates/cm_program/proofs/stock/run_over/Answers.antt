use Rattle.std.proofs.Common.{◌∙◌}
use Rattle.cm_program.proofs.RanLemmas.{ran_words}
use Rattle.cm_program.proofs.stock.run_over.Goals as goal

-- the stock is of the blanks, and the words ran over it
pub returns-in-Some : goal.returns-in-Some
returns-in-Some g c =
    let ran = c.run-status.ensures in
    ran_words _ _ _ _ _ _ _ _ _ _ _ _ (c.make-stock.ensures ∙ c.requires.counted) ran.words ran.runs
    ran.spared.untouched ran.outside

pub returns-in_default : goal.returns-in_default
returns-in_default g c =
    let ran = c.run-status.ensures in
    ran_words _ _ _ _ _ _ _ _ _ _ _ _ (c.make-stock.ensures ∙ c.requires.counted) ran.words ran.runs
    ran.spared.untouched ran.outside
