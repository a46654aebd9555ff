use Rattle.cm_model.specs.Blanks.{blanks_of}
use Rattle.cm_model.proofs.BlankLemmas.{counted_again}
use Rattle.cm_model.proofs.blanks.Blanks.are_counted.Goals as goal

pub returns : goal.returns
returns c = rw (← c.self.view_is) (counted_again (blanks_of c.self.inside.counts))
