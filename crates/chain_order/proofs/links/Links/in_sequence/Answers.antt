use Rattle.std.proofs.Common.{◌∙◌, ap, length, true}
use Rattle.std.proofs.lemmas.List.{length-replicate}
use Rattle.chain_order.proofs.links.Links.in_sequence.Goals as goal

pub ranks_over-requires : goal.ranks_over-requires
ranks_over-requires c =
    ap length c.flags.ensures ∙ ap length c.in_ok-all.ensures ∙ length-replicate c.len.result true ∙ c.len.ensures
