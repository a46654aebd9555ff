use Rattle.std.proofs.Common.{◌≡◌, ◌≤◌, length, drop}
use Rattle.cm_model.specs.Order.{set_of}
use Rattle.chain_order.specs.Links.{linked}
use Rattle.stop_plan.specs.Spread.{spread}
use Rattle.stop_plan.proofs.sets.spread.Given as goal

-- as far as to those that are left
abbrev pub invariant-loop-left : goal.invariant-loop-left
invariant-loop-left l = record {
  long : length l.set ≡ length l.fn.set;
  most : l.left ≤ length l.report.order.now;
  so_far : set_of l.set
      ≡ spread (linked l.report.relations.now.followers) (drop l.left l.report.order.now) (set_of l.fn.set);
}

abbrev pub decreases-loop-left : goal.decreases-loop-left
decreases-loop-left l = l.left
