use Rattle.std.proofs.Common.{length, ap, ◌∙◌, arith}
use Rattle.ctl_traj.proofs.ComeLemmas.{way_behind, since_come, begin_long, rest_fit}
use Rattle.ctl_traj.proofs.lead.lead_on.Goals as goal

-- the way behind those whose times have come is all of it
pub loop-index-init : goal.loop-index-init
loop-index-init c =
    let points = c.args.points.now in
    let come = c.requires.passed in
    record {
      way = rw (c.begun_at-since.ensures, c.begun_from-begin.ensures)
          (way_behind c.args.t 0 c.args.from.now points c.args.come come.within come.each);
      whole = ap length c.begun_from-begin.ensures
          ∙ begin_long (length c.args.outs.now) c.args.from.now points c.args.come c.requires.whole c.requires.fit;
      fit = rest_fit (length c.args.outs.now) points c.args.come c.requires.fit;
      begun = rw c.begun_at-since.ensures (since_come c.args.t 0 points c.args.come (omega arith) come.each);
      passed = come;
    }
