use Rattle.std.proofs.Common.{◌≡◌, ◌++◌, map, take}
use Rattle.desc_check.proofs.names.push_names.Given as goal

-- the names before, and those of the joints so far
abbrev pub invariant-loop-joint : goal.invariant-loop-joint
invariant-loop-joint l =
    map (λ name. name.now) l.names.items
    ≡ map (λ name. name.now) l.fn.names.items ++ map (λ j. j.name) (take l.joint-index l.joints)
