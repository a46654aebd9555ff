use Rattle.std.proofs.Common.{◌≡◌, ◌++◌, drop, map}
use Rattle.toml.specs.Data.{table}
use Rattle.toml.specs.View.{view}
use Rattle.desc_text.specs.Printed.{joint_tree}
use Rattle.desc_text.proofs.print.parts.joint_tables.Given as goal

-- the tables so far, and those of the joints that are left, are those of all
abbrev pub invariant-loop-joint : goal.invariant-loop-joint
invariant-loop-joint l =
    map view l.list.items ++ map (λ j. table (joint_tree j)) (drop l.joint-index l.joints)
    ≡ map (λ j. table (joint_tree j)) l.joints
