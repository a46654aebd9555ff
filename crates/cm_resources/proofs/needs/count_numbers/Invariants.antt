use Rattle.std.proofs.Common.{◌≡◌, take}
use Rattle.std.specs.Prelude.{sum_by}
use Rattle.cm_resources.specs.CycleNeeds.{numbers_at}
use Rattle.cm_resources.proofs.needs.count_numbers.Given as goal

-- what those so far publish
abbrev pub invariant-loop-member : goal.invariant-loop-member
invariant-loop-member l = l.count ≡ sum_by (numbers_at l.checked l.places) (take l.member-index l.order)
