use Rattle.std.proofs.Common.{sym, ◌∙◌, arith}
use Rattle.ctl_traj.proofs.ComeLemmas.{begin_last}
use Rattle.ctl_traj.proofs.lead.begun_from.Goals as goal

-- at the last of those that have come
pub returns : goal.returns
returns c = c.as_slice.ensures
    ∙ sym (begin_last c.args.from.now c.args.come c.args.points.now c.index-points-last.result
    (omega (arith, c.if-come-eq0.false)) c.requires)
