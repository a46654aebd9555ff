use Rattle.std.proofs.Common.{◌≡◌, drop}
use Rattle.spawn_plan.specs.Spans.{least_span}
use Rattle.spawn_plan.proofs.spans.least_span.Given as goal

-- the rest lowers what the first ones left
abbrev pub invariant-loop-component : goal.invariant-loop-component
invariant-loop-component l =
    least_span l.spans l.least (drop l.component-index l.components) ≡ least_span l.spans l.most l.components
