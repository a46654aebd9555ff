use Rattle.cm_model.specs.Cycle.{cycle, landed, stays_active}
use Rattle.stop_plan.specs.Ending.{nobody_again, told_in}
use Rattle.cm_desk.proofs.EndLemmas.{can_settle, settled_by, settled_without}
use Rattle.cm_desk.proofs.land.settle.Goals as goal

pub commit-requires-clause-down : goal.commit-requires-clause-down
commit-requires-clause-down g c = c.requires.1.down

-- the sets are those of the end
pub commit-requires-clause-can : goal.commit-requires-clause-can
commit-requires-clause-can g c =
    let s = c.requires.0 in
    let is = c.requires.1 in (
      landed s (cycle s),
      stays_active s (told_in s),
      nobody_again,
      can_settle s _ _ _ _ _ _ is.landed is.placed (is.ending c.if-context.true),
    )

pub returns-then-context-clause-settled : goal.returns-then-context-clause-settled
returns-then-context-clause-settled g c = λ s is.
    settled_by s _ _ _ (c.commit.ensures.committed (landed s (cycle s)) (stays_active s (told_in s)) nobody_again
    (can_settle s _ _ _ _ _ _ is.landed is.placed (is.ending c.if-context.true)))

-- where nothing failed nobody stops
pub returns-else-context-clause-settled : goal.returns-else-context-clause-settled
returns-else-context-clause-settled g c = λ s is.
    let none = is.quiet c.if-context.false in
    settled_without s _ _ _ _ is.landed none.0 none.1
