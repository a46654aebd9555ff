use Rattle.std.proofs.Common.{◌≡◌, ◌≤◌, drop}
use Rattle.spawn_plan.specs.Spans.{up_to_first}
use Rattle.spawn_plan.proofs.spans.up_to_first.Given as goal

-- the rest lowers what the first ones left
abbrev pub invariant-loop-cycle : goal.invariant-loop-cycle
invariant-loop-cycle l = record {
  within : l.least ≤ l.count;
  left : up_to_first l.least (drop l.cycle-index l.cycles) ≡ up_to_first l.count l.cycles;
}
