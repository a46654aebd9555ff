use Rattle.std.proofs.Common.{◌≡◌, ◌++◌, drop}
use Rattle.cm_hardware.specs.Starting.{places_from}
use Rattle.cm_hardware.specs.Wiring.{commands_count}
use Rattle.cm_hardware.proofs.start.push_commands.Given as goal

-- the places so far, and those of the components that are left, are all
abbrev pub invariant-loop-component : goal.invariant-loop-component
invariant-loop-component l =
    l.places.items ++ places_from commands_count l.component (drop l.component l.units)
    ≡ l.fn.places.items ++ places_from commands_count 0 l.units
