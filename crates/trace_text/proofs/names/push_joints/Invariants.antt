use Rattle.std.proofs.Common.{◌≡◌, ◌++◌, drop, map}
use Rattle.trace_text.proofs.names.push_joints.Given as goal

-- the names so far, and those of what is left, are all names
abbrev pub invariant-loop-joint : goal.invariant-loop-joint
invariant-loop-joint l =
    map (λ r. r.now) l.names.items ++ map (λ j. j.name) (drop l.joint-index l.joints)
    ≡ map (λ r. r.now) l.fn.names.items ++ map (λ j. j.name) l.joints
