use Rattle.std.proofs.Common.{◌∙◌}
use Rattle.std.specs.Prelude.{option_map}
use Rattle.cm_document.specs.Picks.{picked_names}
use Rattle.cm_model.specs.Order.{set_of}
use Rattle.switch_plan.specs.View.{scene_of}
use Rattle.switch_plan.proofs.MetLemmas.{met_fault}
use Rattle.switch_plan.proofs.lists.list_fault.Goals as goal

pub returns : goal.returns
returns c =
    let leaving = option_map (λ set. set.now) c.args.leaving in
    c.fault_met.ensures
    ∙ met_fault (scene_of c.args.view.now) leaving (picked_names c.args.before.now) c.args.name.now c.args.seen
    (set_of c.args.met.now)
    c.requires.seen c.requires.met.set
