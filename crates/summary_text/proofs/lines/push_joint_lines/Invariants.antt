use Rattle.std.proofs.Common.{◌≡◌, ◌++◌, drop, map, string_bytes}
use Rattle.summary_text.specs.Summary.{joint_lines}
use Rattle.summary_text.proofs.lines.push_joint_lines.Given as goal

-- the lines so far, and those of the joints that are left, are all lines
abbrev pub invariant-loop-place : goal.invariant-loop-place
invariant-loop-place l =
    map string_bytes l.lines.items ++ joint_lines l.bodies l.place (map (λ r. r.now) (drop l.place l.joints))
    ≡ map string_bytes l.fn.lines.items ++ joint_lines l.bodies 0 (map (λ r. r.now) l.joints)
