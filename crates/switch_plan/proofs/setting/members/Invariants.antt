use Rattle.std.proofs.Common.{◌≡◌, take}
use Rattle.cm_model.specs.Order.{set_of}
use Rattle.switch_plan.proofs.KeptLemmas.{kept}
use Rattle.switch_plan.proofs.setting.members.Given as goal

-- those so far
abbrev pub invariant-loop-seen : goal.invariant-loop-seen
invariant-loop-seen l = l.list.items ≡ kept (λ s. set_of l.set s.place) (take l.seen-index l.view.loaded.now)
