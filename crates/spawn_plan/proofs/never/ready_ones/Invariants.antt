use Rattle.std.proofs.Common.{◌≡◌, ◌++◌, drop}
use Rattle.spawn_plan.specs.Never.{ready_from}
use Rattle.spawn_plan.proofs.never.ready_ones.Given as goal

-- those so far, and those of the rest
abbrev pub invariant-loop-serial : goal.invariant-loop-serial
invariant-loop-serial l = l.loaded.items ++ ready_from l.serial (drop l.serial l.places) ≡ ready_from 0 l.places
