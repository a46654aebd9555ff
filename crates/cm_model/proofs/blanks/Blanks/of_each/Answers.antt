use Rattle.cm_model.proofs.BlankLemmas.{each_count}
use Rattle.cm_model.proofs.blanks.Blanks.of_each.Goals as goal

pub returns : goal.returns
returns c = each_count c.args.count
