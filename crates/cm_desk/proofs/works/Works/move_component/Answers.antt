use Rattle.std.proofs.Common.{◌≡◌, true, false, refl, sym, subst, ◌∙◌, arith, vec_capacity}
use Rattle.std.specs.Prelude.{slice_set}
use Rattle.std.proofs.lemmas.List.{length-map}
use Rattle.cm_model.specs.Cycle.{moved}
use Rattle.cm_model.specs.State.{State}
use Rattle.cm_model.specs.Steady.{IsSteady}
use Rattle.cm_hardware.specs.Wiring.{Mounted}
use Rattle.cm_resources.specs.CycleResources.{base_of}
use Rattle.cm_desk.specs.Works.{IsKept}
use Rattle.cm_desk.proofs.AfterLemmas.{at_home, rewired, held_when_steady, view_moved, kept_moved}
use Rattle.cm_desk.proofs.Insides.{base_in, state_of}
use Rattle.cm_desk.proofs.works.Works.move_component.Goals as goal

pub move_component-requires-clause-home : goal.move_component-requires-clause-home
move_component-requires-clause-home g c =
    let a = c.self.inside in
    at_home a.checked a.active_set.order a.resources (vec_capacity a.boxes) a.slots.aloft c.self.invariant.based
    (rw (← c.self.view_is) at c.requires.down)

-- its component is there
pub move_component-requires-clause-within : goal.move_component-requires-clause-within
move_component-requires-clause-within g c =
    let a = c.self.inside in
    let p = rw (← c.self.view_is) at c.requires.can in
    omega (
      arith,
      length-map a.resources.robot.value.hardware.components (λ (m : Mounted). m.hardware.life),
      p.1.0.within,
    )

-- it can move
pub unreachable-requires : goal.unreachable-requires
unreachable-requires g c =
    let a = c.self.inside in
    let s = state_of a in
    let p = rw (← c.self.view_is) at c.requires.can in
    let refused = c.in-Err.ensures.moved s c.self.invariant.hardware in
    let no : true ≡ false = sym p.1.0.possible ∙ refused.0.0 in
    cc

pub invariant_of-self : goal.invariant_of-self
invariant_of-self g c =
    let a = c.self.inside in
    let s = state_of a in
    let lives = slice_set s.lives c.args.component c.args.target in
    let after = c.move_component.new.self in
    let w = after.robot.value.hardware in
    let p = rw (← c.self.view_is) at c.requires.can in
    let done = c.in-Ok.ensures.moved s c.self.invariant.hardware in
    let steady : IsSteady (moved s lives) = subst IsSteady p.1.0.is p.1.1 in
    let held = held_when_steady s lives w c.self.invariant.worked_out.valid steady done.1 in
    let same = rewired a.resources after (vec_capacity a.boxes) c.move_component.ensures.resources in
    subst (λ (t : State). IsKept t a.names.items (base_of after (vec_capacity a.boxes)) a.active_set)
    (sym (view_moved s lives (base_in a) (base_of after (vec_capacity a.boxes)) refl refl same held))
    (kept_moved s lives a.names.items (base_in a) (base_of after (vec_capacity a.boxes)) a.active_set c.self.invariant
    (rw (← c.self.view_is) at c.requires.down) held same)

pub returns : goal.returns
returns g c =
    let a = c.self.inside in
    let s = state_of a in
    let lives = slice_set s.lives c.args.component c.args.target in
    let after = c.move_component.new.self in
    let w = after.robot.value.hardware in
    let p = rw (← c.self.view_is) at c.requires.can in
    let done = c.in-Ok.ensures.moved s c.self.invariant.hardware in
    let steady : IsSteady (moved s lives) = subst IsSteady p.1.0.is p.1.1 in
    let held = held_when_steady s lives w c.self.invariant.worked_out.valid steady done.1 in
    let same = rewired a.resources after (vec_capacity a.boxes) c.move_component.ensures.resources in
    rw (← c.self.view_is)
    (λ t is. view_moved s lives (base_in a) (base_of after (vec_capacity a.boxes)) refl refl same held ∙ sym is.is)
