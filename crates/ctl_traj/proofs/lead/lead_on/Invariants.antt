use Rattle.std.proofs.Common.{◌≡◌, true, drop, length, ◌≤◌}
use Rattle.cm_model.specs.Ways.{on_way}
use Rattle.ctl_traj.specs.Led.{all_have, HaveCome}
use Rattle.ctl_traj.proofs.lead.lead_on.Given as goal

-- the way behind the points so far, whose times have come, is all of it
abbrev pub invariant-loop-index : goal.invariant-loop-index
invariant-loop-index l = record {
  way : on_way l.t l.since l.begin (drop l.index l.points) ≡ on_way l.t 0 l.from l.points;
  whole : length l.begin ≡ length l.outs;
  fit : all_have (length l.outs) (drop l.index l.points) ≡ true;
  begun : l.since ≤ l.t;
  passed : HaveCome l.t l.points l.index;
}
