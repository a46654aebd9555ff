use Rattle.std.proofs.Common.{◌≡◌, ◌++◌, drop, map}
use Rattle.summary_text.proofs.lines.push_joints.Given as goal

-- the joints so far, and those that are left, are all joints
abbrev pub invariant-loop-joint : goal.invariant-loop-joint
invariant-loop-joint l =
    map (λ r. r.now) l.joints.items ++ drop l.joint-index l.more ≡ map (λ r. r.now) l.fn.joints.items ++ l.more
