use Rattle.std.proofs.Common.{arith}
use Rattle.cm_model.proofs.BlankLemmas.{set_count}
use Rattle.cm_model.proofs.blanks.Blanks.with.Goals as goal

pub returns : goal.returns
returns c =
    rw (← c.self.view_is, c.place.ensures.place)
    (set_count c.self.inside.counts c.args.kind c.args.count (omega (arith, c.self.told)))
