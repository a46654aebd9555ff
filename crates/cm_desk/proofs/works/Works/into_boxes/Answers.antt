use Rattle.cm_desk.proofs.BeginLemmas.{down_where_closed}
use Rattle.cm_desk.proofs.works.Works.into_boxes.Goals as goal

-- no box is away where the loop is closed
pub into_boxes-requires-clause-home : goal.into_boxes-requires-clause-home
into_boxes-requires-clause-home g c =
    let a = c.self.inside in
    down_where_closed a.slots.aloft a.closed c.self.invariant.unclosed (rw (← c.self.view_is) at c.requires.closed)
