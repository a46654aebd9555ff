use Rattle.std.proofs.Common.{◌≡◌, ◌++◌, drop}
use Rattle.std.specs.Prelude.{filter_map}
use Rattle.cm_model.specs.Faults.{component_with}
use Rattle.switch_plan.proofs.relations.push_components.Given as goal

-- the components so far and of the rest are all
abbrev pub invariant-loop-interface : goal.invariant-loop-interface
invariant-loop-interface l =
    l.row ++ filter_map (component_with l.components) (drop l.interface-index l.interfaces)
    ≡ l.fn.row ++ filter_map (component_with l.components) l.interfaces
