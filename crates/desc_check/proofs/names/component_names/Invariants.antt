use Rattle.std.proofs.Common.{◌≡◌, map, take}
use Rattle.desc_check.proofs.names.component_names.Given as goal

-- the names of the components so far
abbrev pub invariant-loop-component : goal.invariant-loop-component
invariant-loop-component l =
    map (λ name. name.now) l.names.items ≡ map (λ c. c.name) (take l.component-index l.components)
