use Rattle.std.proofs.Common.{◌≡◌, ◌++◌, drop, map, string_bytes}
use Rattle.std.specs.Prelude.{flat_map}
use Rattle.iface_names.specs.Interfaces.{interface_text}
use Rattle.trace_text.specs.Sides.{names_on}
use Rattle.trace_text.proofs.interfaces.push_joints.Given as goal

-- the texts so far, and those of what is left, are all texts
abbrev pub invariant-loop-joint : goal.invariant-loop-joint
invariant-loop-joint l =
    map string_bytes l.texts.items
    ++ map interface_text (flat_map (names_on l.is_command) (drop l.joint-index l.joints))
    ≡ map string_bytes l.fn.texts.items ++ map interface_text (flat_map (names_on l.is_command) l.joints)
