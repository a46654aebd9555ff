use Rattle.std.proofs.Common.{length, arith}
use Rattle.cm_model.specs.Order.{set_of}
use Rattle.cm_model.specs.Scene.{controllers_in}
use Rattle.cm_model.specs.Switches.{is_stopped}
use Rattle.switch_plan.specs.View.{scene_of}
use Rattle.switch_plan.proofs.KeptLemmas.{kept_more, kept_all, kept_within}
use Rattle.switch_plan.proofs.changes.stopped.Goals as goal

-- one more
pub loop-seen-preserved : goal.loop-seen-preserved
loop-seen-preserved c =
    kept_more (λ s. is_stopped (scene_of c.args.change.now.setting.view) (set_of c.args.change.now.set.now)
    (set_of c.args.change.now.again.now) s.place) c.args.change.now.setting.view.loaded.now c.loop-seen.seen-index _ _ _
    _ c.loop-seen-test.true c.is_stopped.ensures c.in_ok-push_if.ensures c.loop-seen.invariant

-- all of them
pub returns-clause-within : goal.returns-clause-within
returns-clause-within c =
    kept_within (λ s. is_stopped (scene_of c.args.change.now.setting.view) (set_of c.args.change.now.set.now)
    (set_of c.args.change.now.again.now) s.place) c.args.change.now.setting.view.loaded.now _
    (length (controllers_in (scene_of c.args.change.now.setting.view))) c.requires.setting.view
    (kept_all (λ s. is_stopped (scene_of c.args.change.now.setting.view) (set_of c.args.change.now.set.now)
    (set_of c.args.change.now.again.now) s.place) c.args.change.now.setting.view.loaded.now c.loop-seen.seen-index _
    (omega (arith, c.loop-seen-test.false)) c.loop-seen.invariant)

pub returns-clause-list : goal.returns-clause-list
returns-clause-list c =
    kept_all (λ s. is_stopped (scene_of c.args.change.now.setting.view) (set_of c.args.change.now.set.now)
    (set_of c.args.change.now.again.now) s.place) c.args.change.now.setting.view.loaded.now c.loop-seen.seen-index _
    (omega (arith, c.loop-seen-test.false)) c.loop-seen.invariant
