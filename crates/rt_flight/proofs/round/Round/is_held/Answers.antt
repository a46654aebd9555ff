use Rattle.std.proofs.Common.{sym, ◌∙◌}
use Rattle.chain_order.specs.Links.{linked}
use Rattle.cm_slots.proofs.UpdateLemmas.{none_held}
use Rattle.rt_flight.proofs.round.Round.is_held.Goals as goal

-- where no read failed nobody is held off
pub returns-then-is_empty : goal.returns-then-is_empty
returns-then-is_empty c =
    rw (← c.self.view_is)
    (sym (none_held c.self.inside.failed.now (linked c.self.inside.relations.now.components c.args.workspace.now.place)
    (sym c.is_empty.ensures ∙ c.if-is_empty.true)))
