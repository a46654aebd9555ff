use Rattle.std.proofs.Common.{◌≡◌}
use Rattle.cm_model.specs.Order.{set_of}
use Rattle.cm_model.specs.Scene.{is_chained_in}
use Rattle.chain_order.specs.Links.{each_below}
use Rattle.request_plan.proofs.switches.chained_in.Given as goal

-- the flags so far
abbrev pub invariant-loop-place : goal.invariant-loop-place
invariant-loop-place l = l.flags.items ≡ each_below (is_chained_in l.checked.controllers (set_of l.set)) l.place
