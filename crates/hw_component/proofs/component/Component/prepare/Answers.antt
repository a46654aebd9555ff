use Rattle.std.proofs.Common.{◌≡◌, ◌<◌, ◌∙◌, length, false, ap, sym, arith}
use Rattle.cm_document.specs.declared.description.CompDesc.{CompDesc}
use Rattle.cm_model.specs.Components.{is_contested, command_interfaces, mode_fault}
use Rattle.hw_component.specs.Hardware.{Hardware}
use Rattle.hw_component.proofs.ClaimLemmas.{least_further}
use Rattle.hw_component.proofs.component.Component.prepare.Goals as goal

pub loop-joint-preserved : goal.loop-joint-preserved
loop-joint-preserved c =
    let here : c.self.inside.description ≡ c.args.self.now.description =
    ap (λ (h : Hardware). h.description) c.self.view_is in
    let many : length c.self.inside.bodies.items ≡ length c.args.self.now.description.joints
    = c.self.invariant.fits.each_body ∙ ap (λ (d : CompDesc). length d.joints) here in
    let below : c.loop-joint.joint < length c.args.self.now.description.joints = omega (arith, many) in
    let same : c.deref.result.now ≡ command_interfaces c.args.self.now.description
    = c.deref.ensures.value ∙ (c.self.invariant.fits.commands_are ∙ ap command_interfaces here) in
    let clear : is_contested (command_interfaces c.args.self.now.description) c.args.claims.now c.loop-joint.joint
    ≡ false
    = rw (← same) (sym c.is_contested.ensures ∙ c.if-is_contested.false) in
    least_further (is_contested (command_interfaces c.args.self.now.description) c.args.claims.now) c.loop-joint.joint
    (length c.args.self.now.description.joints) (mode_fault c.args.self.now.description c.args.claims.now) below clear
    c.loop-joint.invariant
