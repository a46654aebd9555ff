use Rattle.std.proofs.Common.{◌≡◌, ◌++◌, drop, map, string_bytes}
use Rattle.iface_names.specs.Interfaces.{interface_text}
use Rattle.cm_document.specs.Links.{reference_for}
use Rattle.trace_text.proofs.interfaces.push_references_of.Given as goal

-- the texts so far, and those of what is left, are all texts
abbrev pub invariant-loop-interface : goal.invariant-loop-interface
invariant-loop-interface l =
    map string_bytes l.texts.items
    ++ map interface_text (map (reference_for l.controller) (drop l.interface-index l.interfaces))
    ≡ map string_bytes l.fn.texts.items ++ map interface_text (map (reference_for l.controller) l.interfaces)
