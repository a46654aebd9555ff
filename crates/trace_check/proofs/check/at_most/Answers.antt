use Rattle.std.proofs.Common.{◌∙◌}
use Rattle.trace_laws.proofs.StockLemmas.{all_listed}
use Rattle.trace_check.proofs.check.at_most.Goals as goal

-- every kind is listed
pub returns : goal.returns
returns c = c.at_most_of.ensures ∙ all_listed c.args.most c.args.counts.now
