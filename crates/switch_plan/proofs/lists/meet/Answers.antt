use Rattle.std.proofs.Common.{◌∙◌, ap, sym, Some, None}
use Rattle.cm_document.specs.Picks.{picked_names}
use Rattle.cm_model.specs.Order.{with_one}
use Rattle.switch_plan.specs.View.{scene_of}
use Rattle.switch_plan.proofs.MetLemmas.{met_push}
use Rattle.switch_plan.proofs.lists.meet.Goals as goal

pub returns-in-Some : goal.returns-in-Some
returns-in-Some c =
    let scene = scene_of c.args.view.now in
    let found = sym c.in-Some.is ∙ c.requires.seen.found in
    record {
      length = c.insert.ensures.length ∙ c.requires.before.length;
      set =
          c.insert.ensures.set
          ∙ ap (with_one c.in-Some.seen.place) c.requires.before.set
          ∙ met_push scene c.args.name.now (Some c.in-Some.seen) (picked_names c.args.before.now) found;
    }

pub returns-in_default : goal.returns-in_default
returns-in_default c =
    let found = sym c.in_default.is ∙ c.requires.seen.found in
    record {
      length = c.requires.before.length;
      set = c.requires.before.set
          ∙ met_push (scene_of c.args.view.now) c.args.name.now None (picked_names c.args.before.now) found;
    }
