use Rattle.std.proofs.Common.{◌≡◌, take}
use Rattle.cm_model.specs.Scene.{is_running}
use Rattle.switch_plan.proofs.KeptLemmas.{kept}
use Rattle.switch_plan.proofs.setting.running.Given as goal

-- those so far
abbrev pub invariant-loop-seen : goal.invariant-loop-seen
invariant-loop-seen l = l.list.items ≡ kept (λ s. is_running s.life) (take l.seen-index l.view.loaded.now)
