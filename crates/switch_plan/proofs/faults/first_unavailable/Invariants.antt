use Rattle.std.proofs.Common.{◌≡◌, drop}
use Rattle.cm_model.specs.Faults.{first_of, cause_if, is_unavailable}
use Rattle.cm_model.specs.declared.cause.Cause.TheVariants as cause
use Rattle.switch_plan.specs.View.{scene_of}
use Rattle.switch_plan.proofs.faults.first_unavailable.Given as goal

-- the interfaces so far are available
abbrev pub invariant-loop-interface : goal.invariant-loop-interface
invariant-loop-interface l =
    first_of (λ i. cause_if (is_unavailable (scene_of l.view) i) (cause.Unavailable i)) (drop l.interface-index l.these)
    ≡ first_of (λ i. cause_if (is_unavailable (scene_of l.view) i) (cause.Unavailable i)) l.these
