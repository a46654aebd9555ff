use Rattle.std.proofs.Common.{◌≡◌, ◌++◌, drop}
use Rattle.std.specs.Prelude.{flat_map}
use Rattle.cm_document.specs.Described.{states_of_joint}
use Rattle.desc_text.proofs.states.push_component.Given as goal

-- the states so far, and those of the joints that are left, are those before and all of the component
abbrev pub invariant-loop-joint : goal.invariant-loop-joint
invariant-loop-joint l =
    l.states ++ flat_map states_of_joint (drop l.joint-index l.joint-items)
    ≡ l.fn.states ++ flat_map states_of_joint l.joint-items
