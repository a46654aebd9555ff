use Rattle.std.proofs.Common.{refl, sym, subst, ◌∙◌, vec_capacity}
use Rattle.cm_model.specs.Order.{set_of}
use Rattle.cm_model.specs.State.{State}
use Rattle.cm_resources.specs.CycleResources.{base_of}
use Rattle.cm_desk.specs.Works.{IsKept}
use Rattle.cm_desk.proofs.ActingLemmas.{can_switch}
use Rattle.cm_desk.proofs.AfterLemmas.{at_home, rewired, view_committed, kept_committed}
use Rattle.cm_desk.proofs.Insides.{base_in, state_of}
use Rattle.cm_desk.proofs.works.Works.switch.Goals as goal

pub switch-requires : goal.switch-requires
switch-requires g c =
    let a = c.self.inside in
    let s = state_of a in
    let p = rw (← c.self.view_is) at c.requires.can in
    let steady = rw (← c.self.view_is) at c.requires.steady in
    let down = rw (← c.self.view_is) at c.requires.down in record {
      home = at_home a.checked a.active_set.order a.resources (vec_capacity a.boxes) a.slots.aloft
          c.self.invariant.based down;
      down = down;
      can = (
        s,
        p.1.again,
        can_switch s p.0 c.args.switched.now a.names.items (base_in a) a.active_set c.self.invariant steady p.1,
      );
    }

pub invariant_of-self : goal.invariant_of-self
invariant_of-self g c =
    let a = c.self.inside in
    let s = state_of a in
    let p = rw (← c.self.view_is) at c.requires.can in
    let steady = rw (← c.self.view_is) at c.requires.steady in
    let down = rw (← c.self.view_is) at c.requires.down in
    let set = set_of c.args.switched.now.set in
    let after = c.switch.new.self in
    let made = c.switch.ensures.committed s p.1.again
    (can_switch s p.0 c.args.switched.now a.names.items (base_in a) a.active_set c.self.invariant steady p.1) in
    let same = rewired a.resources after (vec_capacity a.boxes) c.switch.ensures.resources in
    subst (λ (t : State). IsKept t a.names.items (base_of after (vec_capacity a.boxes)) c.switch.new.active_set)
    (sym (view_committed s set p.1.again a.slots c.switch.new.slots (base_in a) (base_of after (vec_capacity a.boxes))
    c.switch.new.active_set refl refl refl made c.switch.ensures.rest.slots same))
    (kept_committed s set p.1.again c.switch.new.slots.loaded a.names.items (base_in a)
    (base_of after (vec_capacity a.boxes)) a.active_set c.switch.new.active_set
    c.self.invariant down made c.switch.ensures.rest.order same)

pub returns : goal.returns
returns g c =
    let a = c.self.inside in
    let s = state_of a in
    let steady = rw (← c.self.view_is) at c.requires.steady in
    let set = set_of c.args.switched.now.set in
    let after = c.switch.new.self in
    let same = rewired a.resources after (vec_capacity a.boxes) c.switch.ensures.resources in
    rw (← c.self.view_is) (λ t is.
    let made = c.switch.ensures.committed s is.again
    (can_switch s t c.args.switched.now a.names.items (base_in a) a.active_set c.self.invariant steady is) in
    view_committed s set is.again a.slots c.switch.new.slots (base_in a) (base_of after (vec_capacity a.boxes))
    c.switch.new.active_set refl refl refl made c.switch.ensures.rest.slots same ∙ sym is.is)
