use Rattle.std.proofs.Common.{◌≡◌, map, take}
use Rattle.cm_document.specs.Links.{joints_of}
use Rattle.desc_check.proofs.names.joint_names.Given as goal

-- the names of the joints so far
abbrev pub invariant-loop-component : goal.invariant-loop-component
invariant-loop-component l =
    map (λ name. name.now) l.names.items ≡ map (λ j. j.name) (joints_of (take l.component-index l.components))
