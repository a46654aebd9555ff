use Rattle.std.proofs.Common.{◌≡◌, map}
use lib.Seq.{paste}
use Rattle.fixed_num.specs.declared.value.Value.TheVariants.{Num}
use Rattle.cm_model.specs.Ways.{towards}
use Rattle.ctl_traj.proofs.lead.lead_towards.Given as goal

abbrev pub invariant-loop-i : goal.invariant-loop-i
invariant-loop-i l = l.outs ≡ paste l.initial.outs 0 (map Num (towards l.fn.t l.fn.t0 l.fn.from l.fn.point)) l.i
