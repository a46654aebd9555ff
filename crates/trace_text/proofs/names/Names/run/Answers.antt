use Rattle.std.proofs.Common.{map, ◌∙◌}
use Rattle.trace_text.specs.Heads.{run_head}
use Rattle.trace_text.proofs.HeadLemmas.{told_at}
use Rattle.trace_text.proofs.names.Names.run.Goals as goal

-- heads are told by number as the names are
pub returns : goal.returns
returns c =
    rw (← c.self.view_is)
    ((rw (c.as_slice.ensures.value, c.self.invariant.0) at c.head_at.ensures)
    ∙ told_at run_head (map (λ r. r.now) c.self.inside.controllers.items) c.args.serial)
