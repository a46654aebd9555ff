use Rattle.std.proofs.Common.{◌<◌, ◌∙◌, length}
use Rattle.std.proofs.lemmas.List.Elements.{All-get_or}
use Rattle.cm_model.specs.Order.{set_of, places_of}
use Rattle.cm_model.specs.Scene.{controllers_in}
use Rattle.switch_plan.specs.Settings.{set_scene}
use Rattle.switch_plan.proofs.JoinLemmas.{joining-begun, joining-more}
use Rattle.switch_plan.proofs.best.joined.Goals as goal

pub loop-member-init : goal.loop-member-init
loop-member-init c =
    let scene = set_scene c.args.setting.now in
    record {
      long = c.in_ok-set.ensures.length ∙ c.requires.setting.flags;
      rest = joining-begun scene (set_of c.args.setting.now.active.now) (set_of c.args.leaving.now)
          (set_of c.in_ok-set.set) c.args.dropped.now.items c.args.coming.now
          c.deref-member-items.result.now c.requires.setting.active c.in_ok-set.ensures.set
          (c.deref-member-items.ensures.value ∙ c.in_ok-ordered.ensures.order);
    }

pub join-requires : goal.join-requires
join-requires c =
    let n = length (controllers_in (set_scene c.args.setting.now)) in
    let within =
    All-get_or (λ m. m.place < n) c.deref-member-items.result.now c.loop-member.member-index
    (record { serial = 0; place = 0 }) c.loop-member-test.true
    (rw c.deref-member-items.ensures.value c.in_ok-ordered.ensures.within) in
    record { setting = c.requires.setting; within = within; flags = c.loop-member.invariant.long }

pub loop-member-preserved : goal.loop-member-preserved
loop-member-preserved c =
    let scene = set_scene c.args.setting.now in
    record {
      long = c.in_ok-join.ensures.length;
      rest = joining-more scene (set_of c.in_ok-on.on) (places_of c.args.coming.now) (set_of c.loop-member.set)
          (set_of c.join.new.set) c.loop-member.dropped.items c.join.new.dropped.items
          c.deref-member-items.result.now c.loop-member.member-index (record { serial = 0; place = 0 })
          c.loop-member-test.true c.in_ok-on.ensures.set c.in_ok-join.ensures.joined
          ∙ c.loop-member.invariant.rest;
    }
