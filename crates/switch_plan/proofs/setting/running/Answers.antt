use Rattle.std.proofs.Common.{length, arith}
use Rattle.cm_model.specs.Scene.{controllers_in, is_running}
use Rattle.switch_plan.specs.View.{scene_of}
use Rattle.switch_plan.proofs.KeptLemmas.{kept_more, kept_all, kept_within}
use Rattle.switch_plan.proofs.setting.running.Goals as goal

-- one more
pub loop-seen-preserved : goal.loop-seen-preserved
loop-seen-preserved c =
    kept_more (λ s. is_running s.life) c.args.view.now.loaded.now c.loop-seen.seen-index _ _ _ _ c.loop-seen-test.true
    c.is_running.ensures c.in_ok-push_if.ensures c.loop-seen.invariant

-- all of them
pub returns-clause-within : goal.returns-clause-within
returns-clause-within c =
    kept_within (λ s. is_running s.life) c.args.view.now.loaded.now _
    (length (controllers_in (scene_of c.args.view.now))) c.requires
    (kept_all (λ s. is_running s.life) c.args.view.now.loaded.now c.loop-seen.seen-index _
    (omega (arith, c.loop-seen-test.false)) c.loop-seen.invariant)

pub returns-clause-list : goal.returns-clause-list
returns-clause-list c =
    kept_all (λ s. is_running s.life) c.args.view.now.loaded.now c.loop-seen.seen-index _
    (omega (arith, c.loop-seen-test.false)) c.loop-seen.invariant
