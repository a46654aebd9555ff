use Rattle.cm_model.specs.Components.{interfaces_from}
use Rattle.hw_component.proofs.JointLemmas.{interfaces_more}
use Rattle.hw_component.proofs.make.command_interfaces.Goals as goal

pub loop-number-preserved : goal.loop-number-preserved
loop-number-preserved c =
    interfaces_more (λ j. j.commands) c.args.joints.now c.loop-number.number c.index-joints-number.result
    c.loop-number.interfaces.items
    c.push_interfaces.new.interfaces.items (interfaces_from (λ j. j.commands) 0 c.args.joints.now)
    c.loop-number-test.true c.index-joints-number.is
    (rw c.as_slice.ensures at c.in_ok-push_interfaces.ensures) c.loop-number.invariant
