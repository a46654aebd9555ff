use Rattle.cm_document.proofs.ValidParts.{few_controllers}
use Rattle.chain_order.proofs.links.Links.leaders_in.Goals as goal

pub to_leaders-requires : goal.to_leaders-requires
to_leaders-requires c =
    rw (c.as_slice.ensures, c.description.ensures.same) (few_controllers c.args.checked.now c.description.ensures.valid)
