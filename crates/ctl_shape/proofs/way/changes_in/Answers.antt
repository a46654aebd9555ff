use Rattle.ctl_shape.proofs.FormulaLemmas.{root_most}
use Rattle.ctl_shape.proofs.way.changes_in.Goals as goal

pub returns-clause-no_more : goal.returns-clause-no_more
returns-clause-no_more c = root_most c.args.count c.isqrt.result c.isqrt.ensures.next_square_gt
