use Rattle.std.proofs.Common.{◌≡◌, length, take}
use Rattle.cm_document.specs.Described.{states_of}
use Rattle.cm_document.specs.Links.{joints_of, commands_of}
use Rattle.desc_check.specs.Counts.{counted}
use Rattle.desc_check.proofs.counts.count_robot.Given as goal

-- what the components so far have
abbrev pub invariant-loop-component : goal.invariant-loop-component
invariant-loop-component l = record {
  joints : l.joints ≡ counted (length (joints_of (take l.component-index l.components)));
  states : l.states ≡ counted (length (states_of (take l.component-index l.components)));
  commands : l.commands ≡ counted (length (commands_of (take l.component-index l.components)));
}
