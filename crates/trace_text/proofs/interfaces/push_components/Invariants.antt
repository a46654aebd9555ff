use Rattle.std.proofs.Common.{◌≡◌, ◌++◌, drop, map, string_bytes}
use Rattle.iface_names.specs.Interfaces.{interface_text}
use Rattle.trace_text.specs.Sides.{names_in}
use Rattle.trace_text.proofs.interfaces.push_components.Given as goal

-- the texts so far, and those of what is left, are all texts
abbrev pub invariant-loop-component : goal.invariant-loop-component
invariant-loop-component l =
    map string_bytes l.texts.items ++ map interface_text (names_in l.is_command (drop l.component-index l.components))
    ≡ map string_bytes l.fn.texts.items ++ map interface_text (names_in l.is_command l.components)
