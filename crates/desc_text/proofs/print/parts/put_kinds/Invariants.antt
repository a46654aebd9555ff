use Rattle.std.proofs.Common.{◌≡◌, ◌++◌, drop, map}
use Rattle.toml.specs.Data.{string}
use Rattle.toml.specs.View.{view}
use Rattle.iface_names.specs.Interfaces.{kind_word}
use Rattle.desc_text.proofs.print.parts.put_kinds.Given as goal

-- the words so far, and those of the kinds that are left, are those of all
abbrev pub invariant-loop-kind : goal.invariant-loop-kind
invariant-loop-kind l =
    map view l.list.items ++ map (λ kind. string (kind_word kind)) (drop l.kind-index l.said)
    ≡ map (λ kind. string (kind_word kind)) l.said
