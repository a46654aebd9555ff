use Rattle.std.proofs.Common.{◌≡◌, map, drop}
use Rattle.std.specs.Prelude.{find}
use Rattle.cm_document.specs.Links.{reference_for, exported_for, refs_of}
use Rattle.cm_model.specs.Order.{set_of}
use Rattle.cm_model.specs.Scene.{controllers_in, is_claimed_by}
use Rattle.switch_plan.specs.View.{scene_of}
use Rattle.switch_plan.proofs.best.needed_reference.Given as goal

-- no reference so far is claimed
abbrev pub invariant-loop-own : goal.invariant-loop-own
invariant-loop-own l =
    find (is_claimed_by (controllers_in (scene_of l.view)) (set_of l.staying))
    (map (reference_for l.controller.name) (drop l.own-index (exported_for l.controller.params l.controller)))
    ≡ find (is_claimed_by (controllers_in (scene_of l.view)) (set_of l.staying)) (refs_of l.controller)
