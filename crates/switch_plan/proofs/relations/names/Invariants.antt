use Rattle.std.proofs.Common.{◌≡◌, map, take}
use Rattle.std.specs.List.{IsDistinct}
use Rattle.iface_names.specs.Names.{same_name}
use Rattle.switch_plan.proofs.relations.names.Given as goal

-- the names so far, each at its place
abbrev pub invariant-loop-controller : goal.invariant-loop-controller
invariant-loop-controller l = record {
  distinct : IsDistinct same_name l.names.keys;
  names : l.names.keys ≡ map (λ c. c.name) (take l.controller-index l.controllers);
}
