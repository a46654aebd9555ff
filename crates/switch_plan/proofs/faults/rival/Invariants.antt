use Rattle.std.proofs.Common.{◌≡◌, drop}
use Rattle.std.specs.Prelude.{find, not, ◌&&◌, ◌==◌}
use Rattle.cm_model.specs.Scene.{controllers_in, claims_at}
use Rattle.switch_plan.specs.View.{scene_of}
use Rattle.switch_plan.proofs.faults.rival.Given as goal

-- the members so far do not claim it
abbrev pub invariant-loop-member : goal.invariant-loop-member
invariant-loop-member l =
    find (λ m. not (m.place == l.place) && claims_at (controllers_in (scene_of l.proposal.view)) m.place l.interface)
    (drop l.member-index l.proposal.order.now)
    ≡ find (λ m. not (m.place == l.place) && claims_at (controllers_in (scene_of l.proposal.view)) m.place l.interface)
    l.proposal.order.now
