use Rattle.std.proofs.Common.{◌≡◌, ◌++◌, drop}
use Rattle.cm_model.specs.Components.{interfaces_from}
use Rattle.hw_component.proofs.make.state_interfaces.Given as goal

-- the interfaces so far, and those of the joints that are left, are all
abbrev pub invariant-loop-number : goal.invariant-loop-number
invariant-loop-number l =
    l.interfaces.items ++ interfaces_from (λ j. j.states) l.number (drop l.number l.joints)
    ≡ interfaces_from (λ j. j.states) 0 l.joints
