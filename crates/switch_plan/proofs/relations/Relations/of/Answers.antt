use Rattle.cm_document.proofs.ValidParts.{few_controllers}
use Rattle.switch_plan.proofs.relations.Relations.of.Goals as goal

pub odds-requires : goal.odds-requires
odds-requires c =
    rw (c.as_slice.ensures, c.description-description.ensures.same)
    (few_controllers c.args.checked.now c.description-description.ensures.valid)
