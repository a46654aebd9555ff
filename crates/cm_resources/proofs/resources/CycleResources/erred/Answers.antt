use Rattle.std.proofs.Common.{ap, ◌∙◌}
use Rattle.rt_flight.specs.declared.context.CycleContext.{CycleContext}
use Rattle.cm_resources.proofs.resources.CycleResources.erred.Goals as goal

pub unreachable-requires : goal.unreachable-requires
unreachable-requires c = rw (c.in-None.is) at c.requires

-- what works in a cycle is at home with them
pub returns : goal.returns
returns c = c.as_slice.ensures.value ∙ ap (λ (k : CycleContext). k.erred.items) c.deref.ensures
    ∙ (rw (c.in-Some.is) at c.requires).erred
