use Rattle.cm_resources.proofs.resources.CycleResources.send_out.Goals as goal

pub leave-context-requires : goal.leave-context-requires
leave-context-requires c = c.requires.home
