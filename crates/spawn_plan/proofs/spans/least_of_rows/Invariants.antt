use Rattle.std.proofs.Common.{◌≡◌, drop, map}
use Rattle.chain_order.specs.Links.{linked}
use Rattle.spawn_plan.specs.Spans.{least_of_rows}
use Rattle.spawn_plan.proofs.spans.least_of_rows.Given as goal

-- the rest lowers what the first ones left
abbrev pub invariant-loop-place : goal.invariant-loop-place
invariant-loop-place l =
    least_of_rows l.spans l.least (map (linked l.relations.components) (drop l.place-index l.places))
    ≡ least_of_rows l.spans l.count (map (linked l.relations.components) l.places)
