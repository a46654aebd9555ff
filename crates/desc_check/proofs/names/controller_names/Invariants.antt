use Rattle.std.proofs.Common.{◌≡◌, map, take}
use Rattle.desc_check.proofs.names.controller_names.Given as goal

-- the names of the controllers so far
abbrev pub invariant-loop-controller : goal.invariant-loop-controller
invariant-loop-controller l =
    map (λ name. name.now) l.names.items ≡ map (λ c. c.name) (take l.controller-index l.controllers)
