use Rattle.cm_document.proofs.ValidParts.{few_controllers}
use Rattle.chain_order.proofs.links.Links.followers_in.Goals as goal

pub resolve-requires : goal.resolve-requires
resolve-requires c =
    rw (c.as_slice.ensures, c.description.ensures.same) (few_controllers c.args.checked.now c.description.ensures.valid)
