use Rattle.std.proofs.Common.{arith}
use Rattle.switch_plan.proofs.changes.restarts.Goals as goal

pub is_chained-before-requires : goal.is_chained-before-requires
is_chained-before-requires c = omega (arith, c.requires.within, c.requires.change.setting.rows)
