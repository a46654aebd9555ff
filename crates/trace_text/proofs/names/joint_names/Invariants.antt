use Rattle.std.proofs.Common.{◌≡◌, ◌++◌, drop, map}
use Rattle.cm_document.specs.Links.{joints_of}
use Rattle.trace_text.proofs.names.joint_names.Given as goal

-- the names so far, and those of what is left, are all names
abbrev pub invariant-loop-component : goal.invariant-loop-component
invariant-loop-component l =
    map (λ r. r.now) l.names.items ++ map (λ j. j.name) (joints_of (drop l.component-index l.components))
    ≡ map (λ j. j.name) (joints_of l.components)
