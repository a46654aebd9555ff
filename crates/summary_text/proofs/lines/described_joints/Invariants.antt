use Rattle.std.proofs.Common.{◌≡◌, ◌++◌, drop, map}
use Rattle.cm_document.specs.Links.{joints_of}
use Rattle.summary_text.proofs.lines.described_joints.Given as goal

-- the joints so far, and those of what is left, are all joints
abbrev pub invariant-loop-component : goal.invariant-loop-component
invariant-loop-component l =
    map (λ r. r.now) l.joints.items ++ joints_of (drop l.component-index l.components) ≡ joints_of l.components
