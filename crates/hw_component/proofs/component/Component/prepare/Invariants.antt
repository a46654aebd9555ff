use Rattle.std.proofs.Common.{◌≡◌, ◌-◌, length}
use Rattle.std.specs.Prelude.{find}
use Rattle.std.specs.List.{range_with_len}
use Rattle.cm_model.specs.Components.{is_contested, command_interfaces, mode_fault}
use Rattle.hw_component.proofs.component.Component.prepare.Given as goal

-- the least joint among those that are left is the least of all
abbrev pub invariant-loop-joint : goal.invariant-loop-joint
invariant-loop-joint l =
    find (is_contested (command_interfaces l.self.description) l.claims)
    (range_with_len l.joint (length l.self.description.joints - l.joint))
    ≡ mode_fault l.self.description l.claims
