use Rattle.std.proofs.Common.{◌≡◌, map, take}
use Rattle.cm_desk.proofs.works.names_of.Given as goal

-- the names so far
abbrev pub invariant-loop-controller : goal.invariant-loop-controller
invariant-loop-controller l = l.names.items ≡ map (λ c. c.name) (take l.controller-index l.controllers)
