use Rattle.std.proofs.Common.{rules}
use Rattle.rows_desk.proofs.LoopPassLemmas.{closes_loop}
use Rattle.rows_desk.proofs.shared.looping.close.Goals as goal

pub returns : goal.returns
returns g c = closes_loop _ _ _ _ _ _ c.requires (search rules) c.close.ensures.closed
