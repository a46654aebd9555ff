use Rattle.std.proofs.Common.{rules}
use Rattle.rows_desk.proofs.LoopPassLemmas.{lands_loop}
use Rattle.rows_desk.proofs.shared.looping.land.Goals as goal

pub returns : goal.returns
returns g c = lands_loop _ _ _ _ _ _ _ _ c.requires c.land.ensures.landed (search rules) (search rules)
