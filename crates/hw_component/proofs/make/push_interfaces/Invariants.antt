use Rattle.std.proofs.Common.{◌≡◌, ◌++◌, map, drop}
use Rattle.hw_component.proofs.make.push_interfaces.Given as goal

-- the interfaces so far, and those of the kinds that are left, are all
abbrev pub invariant-loop-kind : goal.invariant-loop-kind
invariant-loop-kind l =
    l.interfaces.items ++ map (λ kind. record { joint = l.joint; kind = kind }) (drop l.kind-index l.kinds)
    ≡ l.fn.interfaces.items ++ map (λ kind. record { joint = l.joint; kind = kind }) l.kinds
