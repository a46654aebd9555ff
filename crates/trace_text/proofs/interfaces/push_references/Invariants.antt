use Rattle.std.proofs.Common.{◌≡◌, ◌++◌, drop, map, string_bytes}
use Rattle.iface_names.specs.Interfaces.{interface_text}
use Rattle.cm_document.specs.Links.{references_of}
use Rattle.trace_text.proofs.interfaces.push_references.Given as goal

-- the texts so far, and those of what is left, are all texts
abbrev pub invariant-loop-controller : goal.invariant-loop-controller
invariant-loop-controller l =
    map string_bytes l.texts.items ++ map interface_text (references_of (drop l.controller-index l.controllers))
    ≡ map string_bytes l.fn.texts.items ++ map interface_text (references_of l.controllers)
