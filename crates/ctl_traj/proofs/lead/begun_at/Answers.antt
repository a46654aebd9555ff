use Rattle.std.proofs.Common.{sym, arith}
use Rattle.ctl_traj.proofs.ComeLemmas.{since_last}
use Rattle.ctl_traj.proofs.lead.begun_at.Goals as goal

-- at the last of those that have come
pub returns : goal.returns
returns c = sym
    (since_last 0 c.args.come c.args.points.now c.index-points-last.result (omega (arith, c.if-come-eq0.false))
    c.requires)
