use Rattle.std.proofs.Common.{◌≡◌, ◌∙◌, List, Bool, false, length, ap, arith}
use Rattle.std.specs.Vec.{with_items}
use Rattle.std.proofs.lemmas.List.{with_items_is}
use Rattle.fixed_num.specs.declared.value.BodyState.{BodyState}
use Rattle.cm_model.specs.Components.{bodies_after_step}
use Rattle.hw_component.specs.Drives.{states_in, each_stepped}
use Rattle.hw_component.proofs.JointLemmas.{steps_fit, steps_seen}
use Rattle.hw_component.proofs.component.Component.step.Goals as goal

pub invariant_of-self : goal.invariant_of-self
invariant_of-self c =
    let k = c.self.inside in
    let long : length c.step_bodies.new.bodies ≡ k.bodies.len = omega arith in
    let now : (with_items k.bodies c.step_bodies.new.bodies).items
    ≡ each_stepped c.is_commanded-is_commanded.result k.commands.items k.applied.items c.args.dt_us k.claimed.items
    k.bodies.items
    = with_items_is k.bodies c.step_bodies.new.bodies long
    ∙ rw (
      c.deref.ensures.value,
      c.deref-2.ensures.value,
      c.deref-3.ensures.value,
      c.deref_mut.ensures.value,
    ) at c.step_bodies.ensures in
    record {
      fits = rw now
          (steps_fit c.is_commanded-is_commanded.result c.args.dt_us k.description k.bodies.items k.claimed.items
          k.states.items
          k.commands.items k.applied.items c.self.invariant.fits);
    }

pub returns : goal.returns
returns c =
    let k = c.self.inside in
    let long : length c.step_bodies.new.bodies ≡ k.bodies.len = omega arith in
    let now : (with_items k.bodies c.step_bodies.new.bodies).items
    ≡ each_stepped c.is_commanded-is_commanded.result k.commands.items k.applied.items c.args.dt_us k.claimed.items
    k.bodies.items
    = with_items_is k.bodies c.step_bodies.new.bodies long
    ∙ rw (
      c.deref.ensures.value,
      c.deref-2.ensures.value,
      c.deref-3.ensures.value,
      c.deref_mut.ensures.value,
    ) at c.step_bodies.ensures in
    let seen = steps_seen c.is_commanded-is_commanded.result c.args.dt_us k.description k.bodies.items k.claimed.items
    k.states.items
    k.commands.items k.applied.items c.self.invariant.fits
    ∙ ap (λ (b : Bool). bodies_after_step k.description b k.claimed.items k.applied.items c.args.dt_us
    (states_in k.bodies.items))
    c.is_commanded-is_commanded.ensures in
    rw (← c.self.view_is) (ap (λ (bodies : List BodyState). record {
      description = k.description;
      life = k.life;
      bodies = bodies;
      claimed = k.claimed.items;
      commands = k.applied.items;
      written = false;
    }) (rw now seen))
