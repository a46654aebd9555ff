use Rattle.std.proofs.Common.{◌≡◌, length, map, ap, ◌∙◌, arith}
use Rattle.std.proofs.lemmas.List.{with_items_is}
use Rattle.cm_hardware.specs.Wiring.{Wired, all_joints, all_written, stepped_on}
use Rattle.cm_hardware.specs.Wiring.{after_failure, after_failures_of, components_run}
use Rattle.cm_hardware.proofs.KeepLemmas.{joints_stay, few_stay, alike_run, managed}
use Rattle.cm_hardware.proofs.manager.ResourceManager.run.Goals as goal

-- the components are described as before
pub step_units-requires : goal.step_units-requires
step_units-requires c =
    let k = c.self.inside in
    let ms = k.units.items in
    let here : ms ≡ c.args.self.now.components = ap (λ (w : Wired). w.components) c.self.view_is in
    let units : c.write_units.new.units ≡ all_written c.args.number k.first_command k.board ms =
    rw (c.as_mut_slice-units.ensures.value) at c.write_units.ensures.units in
    let joints : all_joints c.write_units.new.units ≡ all_joints c.args.self.now.components =
    ap all_joints units
    ∙ joints_stay ms (all_written c.args.number k.first_command k.board ms)
    (alike_run c.args.number k.first_command k.board ms) ∙ ap all_joints here in
    record {
      some_time = c.requires.time.0;
      no_longer = c.requires.time.1;
      few = rw units
          (few_stay ms (all_written c.args.number k.first_command k.board ms)
          (alike_run c.args.number k.first_command k.board ms) c.self.invariant.joints);
      room = omega (arith, joints, c.requires.joints);
    }

-- the hardware after the cycle
pub invariant_of-self : goal.invariant_of-self
invariant_of-self c =
    let k = c.self.inside in
    let n = c.args.number in
    let dt_us = c.args.dt_us in
    let w : Wired = record { components = k.units.items; loans = k.board; places = k.places.items } in
    let run : c.step_units.new.units ≡ components_run n dt_us w =
    c.step_units.ensures.units
    ∙ ap (map (stepped_on dt_us))
    (rw (c.as_mut_slice-units.ensures.value, c.self.invariant.first) at c.write_units.ensures.units) in
    let after : c.fail_units.new.units ≡ map after_failure (components_run n dt_us w) =
    c.fail_units.ensures.units ∙ ap (map after_failure) run in
    let loans : c.fail_units.new.board ≡ after_failures_of (components_run n dt_us w) 0 k.places.items k.board =
    rw (run, c.deref.ensures.value) at c.fail_units.ensures.board in
    let long : length c.fail_units.new.units ≡ k.units.len = omega arith in
    rw (with_items_is k.units c.fail_units.new.units long, after, loans)
    (managed k.first_command n dt_us w c.self.invariant)
