use Rattle.std.proofs.Common.{◌≡◌, ◌++◌, length, drop, map, vec_capacity}
use Rattle.cm_model.specs.State.{component_lines_from}
use Rattle.cm_hardware.specs.Wiring.{Mounted}
use Rattle.cm_hardware.proofs.lists.show_units.Given as goal

-- the lines so far, one for each component, and those of the components that are left, are all
abbrev pub invariant-loop-place : goal.invariant-loop-place
invariant-loop-place l = record {
  all : l.lines.items ++ component_lines_from l.place (map (λ (m : Mounted). m.hardware.life) (drop l.place l.units))
      ≡ component_lines_from 0 (map (λ (m : Mounted). m.hardware.life) l.units);
  each : length l.lines.items ≡ l.place;
  room : vec_capacity l.lines ≡ vec_capacity l.fn.lines;
}
