use Rattle.std.proofs.Common.{◌≡◌, ◌++◌, drop, map}
use Rattle.spawn_plan.specs.Spans.{span_of}
use Rattle.spawn_plan.proofs.spans.spans_of.Given as goal

-- the spans so far, and those of the rest
abbrev pub invariant-loop-component : goal.invariant-loop-component
invariant-loop-component l =
    l.spans.items ++ map (span_of l.count) (drop l.component-index l.components) ≡ map (span_of l.count) l.components
