use Rattle.std.proofs.Common.{◌≡◌, ◌+◌, drop}
use Rattle.cm_hardware.specs.Wiring.{all_states}
use Rattle.cm_hardware.proofs.start.count_states.Given as goal

-- those so far, and those of the components that are left, are all
abbrev pub invariant-loop-unit : goal.invariant-loop-unit
invariant-loop-unit l = l.count + all_states (drop l.unit-index l.units) ≡ all_states l.units
