use Rattle.std.proofs.Common.{◌≡◌, length, take}
use Rattle.std.specs.Prelude.{flat_map}
use Rattle.cm_document.specs.Described.{states_of_joint}
use Rattle.cm_document.specs.Links.{commands_of_joint}
use Rattle.desc_check.specs.Counts.{counted}
use Rattle.desc_check.proofs.counts.count_interfaces.Given as goal

-- what the joints so far have
abbrev pub invariant-loop-joint : goal.invariant-loop-joint
invariant-loop-joint l = record {
  states : l.states ≡ counted (length (flat_map states_of_joint (take l.joint-index l.joints)));
  commands : l.commands ≡ counted (length (flat_map commands_of_joint (take l.joint-index l.joints)));
}
