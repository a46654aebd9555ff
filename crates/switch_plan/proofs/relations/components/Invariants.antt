use Rattle.std.proofs.Common.{◌≡◌}
use Rattle.chain_order.specs.Links.{each_below}
use Rattle.switch_plan.specs.Relations.{components_at}
use Rattle.switch_plan.proofs.relations.components.Given as goal

-- each place so far has its row
abbrev pub invariant-loop-place : goal.invariant-loop-place
invariant-loop-place l = l.rows ≡ each_below (components_at l.description) l.place
