use Rattle.std.proofs.Common.{sym}
use Rattle.cm_model.specs.Blanks.{blanks_of}
use Rattle.cm_model.proofs.BlankLemmas.{count_is}
use Rattle.cm_model.proofs.blanks.Blanks.of.Goals as goal

pub returns : goal.returns
returns c = rw (← c.self.view_is, c.place.ensures.place) (sym (count_is (blanks_of c.self.inside.counts) c.args.kind))
