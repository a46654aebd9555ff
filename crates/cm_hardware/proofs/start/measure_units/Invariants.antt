use Rattle.std.proofs.Common.{◌≡◌, ◌+◌, ◌<◌, ◌≤◌, ◌^◌, drop, length}
use Rattle.cm_hardware.specs.Starting.{after_measures_of}
use Rattle.cm_hardware.specs.Wiring.{all_states}
use Rattle.cm_hardware.proofs.start.measure_units.Given as goal

-- to measure the components that are left is to measure all
abbrev pub invariant-loop-unit : goal.invariant-loop-unit
invariant-loop-unit l = record {
  board : after_measures_of l.at l.board (drop l.unit-index l.units) ≡ after_measures_of 0 l.fn.board l.fn.units;
  places : l.at + all_states (drop l.unit-index l.units) ≤ length l.board;
  few : length l.board < 2 ^ 32;
  units : l.units ≡ l.fn.units;
  same : length l.board ≡ length l.fn.board;
}
