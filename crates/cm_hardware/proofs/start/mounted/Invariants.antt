use Rattle.std.proofs.Common.{◌≡◌, ◌++◌, drop, map}
use Rattle.cm_hardware.specs.Starting.{mounted}
use Rattle.cm_hardware.proofs.start.mounted.Given as goal

-- the components so far, and those that are left, are all
abbrev pub invariant-loop-component : goal.invariant-loop-component
invariant-loop-component l =
    l.units.items ++ map mounted (drop l.component-index l.components) ≡ map mounted l.components
