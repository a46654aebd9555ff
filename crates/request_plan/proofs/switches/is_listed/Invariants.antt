use Rattle.std.proofs.Common.{◌≡◌, take}
use Rattle.cm_model.specs.Components.{is_listed}
use Rattle.request_plan.proofs.switches.is_listed.Given as goal

-- whether it is one of those so far
abbrev pub invariant-loop-other : goal.invariant-loop-other
invariant-loop-other l = l.listed ≡ is_listed (take l.other-index l.serials) l.serial
