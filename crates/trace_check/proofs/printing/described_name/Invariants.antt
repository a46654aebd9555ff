use Rattle.std.proofs.Common.{◌≡◌, true, drop}
use Rattle.std.specs.List.{list_any}
use Rattle.iface_names.specs.Names.{same_name}
use Rattle.trace_check.proofs.printing.described_name.Given as goal

-- it is one of the others
abbrev pub invariant-loop-controller : goal.invariant-loop-controller
invariant-loop-controller l =
    list_any (λ c. same_name c.name l.name) (drop l.controller-index l.description.controllers) ≡ true
