use Rattle.std.proofs.Common.{◌≡◌, ◌++◌, drop, map, string_bytes}
use Rattle.iface_names.specs.Interfaces.{interface_text}
use Rattle.iface_names.specs.declared.interface.IfaceName.TheVariants.{Joint}
use Rattle.trace_text.proofs.interfaces.push_kinds.Given as goal

-- the texts so far, and those of what is left, are all texts
abbrev pub invariant-loop-kind : goal.invariant-loop-kind
invariant-loop-kind l =
    map string_bytes l.texts.items ++ map interface_text (map (Joint l.joint) (drop l.kind-index l.kinds))
    ≡ map string_bytes l.fn.texts.items ++ map interface_text (map (Joint l.joint) l.kinds)
