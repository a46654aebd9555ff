use Rattle.std.proofs.Common.{subst}
use Rattle.cm_desk.specs.Desk.{IsRight}
use Rattle.cm_desk.proofs.LoopLemmas.{right_of}
use Rattle.cm_desk.proofs.desk.Desk.is_right.Goals as goal

-- what its type keeps says it
pub returns : goal.returns
returns g c =
    let a = c.self.inside in
    subst IsRight c.self.view_is
    (right_of a.works.description a.at_boot a.works.sessions a.history.items a.works _ _ c.self.invariant.0)
