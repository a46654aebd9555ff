use Rattle.std.proofs.Common.{◌≡◌, drop}
use Rattle.cm_model.specs.Order.{set_of}
use Rattle.std.specs.Prelude.{◌&&◌}
use Rattle.std.specs.List.{list_any}
use Rattle.cm_model.specs.Scene.{described}
use Rattle.cm_model.specs.Faults.{is_beside, is_mode_taken}
use Rattle.switch_plan.specs.View.{scene_of}
use Rattle.switch_plan.proofs.faults.is_mode_taken.Given as goal

-- the members so far do not take it
abbrev pub invariant-loop-seen : goal.invariant-loop-seen
invariant-loop-seen l =
    list_any (λ s. set_of l.proposal.set.now s.place
    && list_any (is_beside l.interface) (described (scene_of l.proposal.view) s.place).claims)
    (drop l.seen-index l.proposal.view.loaded.now)
    ≡ is_mode_taken (scene_of l.proposal.view) (set_of l.proposal.set.now) l.interface
