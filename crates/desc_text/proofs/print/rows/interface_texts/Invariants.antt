use Rattle.std.proofs.Common.{◌≡◌, ◌++◌, drop, map}
use Rattle.toml.specs.Data.{string}
use Rattle.toml.specs.View.{view}
use Rattle.iface_names.specs.Interfaces.{interface_text}
use Rattle.desc_text.proofs.print.rows.interface_texts.Given as goal

-- the texts so far, and those of the interfaces that are left, are those of all
abbrev pub invariant-loop-interface : goal.invariant-loop-interface
invariant-loop-interface l =
    map view l.list.items ++ map (λ it. string (interface_text it)) (drop l.interface-index l.interfaces)
    ≡ map (λ it. string (interface_text it)) l.interfaces
