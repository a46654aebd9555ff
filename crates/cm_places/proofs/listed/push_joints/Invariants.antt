use Rattle.std.proofs.Common.{◌≡◌, ◌++◌, drop}
use Rattle.std.specs.Prelude.{flat_map}
use Rattle.cm_places.specs.Listing.{listed_joint}
use Rattle.cm_places.proofs.listed.push_joints.Given as goal

-- those so far, and those of what is left, are all
abbrev pub invariant-loop-joint : goal.invariant-loop-joint
invariant-loop-joint l =
    l.listed.items ++ flat_map (listed_joint l.is_command) (drop l.joint-index l.joints)
    ≡ l.fn.listed.items ++ flat_map (listed_joint l.is_command) l.joints
