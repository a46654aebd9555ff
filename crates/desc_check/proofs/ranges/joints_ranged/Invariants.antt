use Rattle.std.proofs.Common.{◌≡◌, drop}
use Rattle.cm_document.specs.Valid.{each_ranged, joint_ranged}
use Rattle.desc_check.proofs.ranges.joints_ranged.Given as goal

-- the joints that are left have the first fault of all
abbrev pub invariant-loop-index : goal.invariant-loop-index
invariant-loop-index l =
    each_ranged (joint_ranged l.kind) l.path l.index (drop l.index l.joints)
    ≡ each_ranged (joint_ranged l.kind) l.path 0 l.joints
