use Rattle.std.proofs.Common.{◌≡◌, map, take}
use Rattle.std.specs.Prelude.{filter}
use Rattle.cm_model.specs.Scene.{is_running, member}
use Rattle.request_plan.proofs.situation.running.Given as goal

-- those so far
abbrev pub invariant-loop-seen : goal.invariant-loop-seen
invariant-loop-seen l = l.list.items ≡ map member (filter (λ s. is_running s.life) (take l.seen-index l.loaded))
