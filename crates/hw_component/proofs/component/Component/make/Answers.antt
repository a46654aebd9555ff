use Rattle.std.proofs.Common.{◌≡◌, map, replicate, length, None, rules}
use Rattle.fixed_num.specs.declared.value.Value.TheVariants.{Unset}
use Rattle.cm_model.specs.Components.{state_interfaces, command_interfaces}
use Rattle.hw_component.specs.Drives.{body_made}
use Rattle.hw_component.proofs.JointLemmas.{made_fits, made_seen}
use Rattle.hw_component.proofs.component.Component.make.Goals as goal

pub invariant_of-result : goal.invariant_of-result
invariant_of-result c =
    let d = c.args.description.now in
    let same : c.in_ok-copied.field-0 ≡ d = c.in_ok-copied.ensures in
    let bodies : c.in_ok-bodies.field-0.items ≡ map body_made d.joints = search rules in
    let claimed : c.in_ok-vec.field-0.items ≡ replicate (length d.joints) None = search rules in
    let states : c.in_ok-state_interfaces.field-0.items ≡ state_interfaces d = search rules in
    let commands : c.in_ok-commands.commands.items ≡ command_interfaces d = search rules in
    let applied : c.in_ok-vec-2.field-0.items ≡ replicate (length (command_interfaces d)) Unset = search rules in
    record {
      fits = rw (same, bodies, claimed, states, commands, applied) (made_fits d c.requires.joints);
    }

pub returns : goal.returns
returns c =
    let d = c.args.description.now in
    let same : c.in_ok-copied.field-0 ≡ d = c.in_ok-copied.ensures in
    let bodies : c.in_ok-bodies.field-0.items ≡ map body_made d.joints = search rules in
    let claimed : c.in_ok-vec.field-0.items ≡ replicate (length d.joints) None = search rules in
    let applied : c.in_ok-vec-2.field-0.items ≡ replicate (length (command_interfaces d)) Unset = search rules in
    rw (same, bodies, claimed, applied) (made_seen d)
