use Rattle.std.proofs.Common.{map, ◌∙◌}
use Rattle.trace_text.specs.Heads.{body_head}
use Rattle.trace_text.proofs.HeadLemmas.{told_at}
use Rattle.trace_text.proofs.names.Names.body.Goals as goal

-- heads are told by number as the names are
pub returns : goal.returns
returns c =
    rw (← c.self.view_is)
    ((rw (c.as_slice.ensures.value, c.self.invariant.1) at c.head_at.ensures)
    ∙ told_at body_head (map (λ r. r.now) c.self.inside.joints.items) c.args.place)
