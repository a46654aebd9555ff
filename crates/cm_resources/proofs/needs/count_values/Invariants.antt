use Rattle.std.proofs.Common.{◌≡◌, take}
use Rattle.std.specs.Prelude.{sum_by}
use Rattle.cm_resources.specs.CycleNeeds.{outs_at}
use Rattle.cm_resources.proofs.needs.count_values.Given as goal

-- what those so far give out
abbrev pub invariant-loop-member : goal.invariant-loop-member
invariant-loop-member l = l.count ≡ sum_by (outs_at l.places) (take l.member-index l.order)
