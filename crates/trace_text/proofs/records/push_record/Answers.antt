use Rattle.trace_text.proofs.JoinLemmas.{Adds-then, Adds-some}
use Rattle.trace_text.proofs.records.push_record.Goals as goal

-- the four parts are all items
pub returns-then-stops : goal.returns-then-stops
returns-then-stops c =
    let failures = rw c.failed.ensures at c.in_ok-failures.ensures in
    let rans = rw c.ran.ensures at c.in_ok-rans.ensures in
    let bodies = rw c.bodies.ensures at c.in_ok-bodies.ensures in
    let stops = rw (c.stops.ensures, c.if-stops.true) at c.in_ok-stops.ensures in
    Adds-some _ _ _
    (Adds-then _ _ _ _ _ _ _ _ (Adds-then _ _ _ _ _ _ _ _ (Adds-then _ _ _ _ _ _ _ _ failures rans) bodies) stops)
