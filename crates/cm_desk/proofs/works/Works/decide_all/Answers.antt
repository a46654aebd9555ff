use Rattle.std.proofs.Common.{◌≡◌, [], arith}
use Rattle.std.proofs.lemmas.Grind.{common_steps}
use Rattle.std.specs.Vec.Iter.{into_iter_items}
use Rattle.cm_desk.proofs.BeginLemmas.{next_of, left_next, left_none}
use Rattle.cm_desk.proofs.works.Works.decide_all.Goals as goal

-- the first of those that are left
pub conclude-requires-clause-next : goal.conclude-requires-clause-next
conclude-requires-clause-next g c =
    let left = rw (c.in-Some.ensures.steps.0) at c.loop-conclusion.invariant in
    let n = next_of _ _ _ _ left in
    (n.asked, n.others, n.next)

-- the others
pub loop-conclusion-preserved : goal.loop-conclusion-preserved
loop-conclusion-preserved g c =
    let left = rw (c.in-Some.ensures.steps.0) at c.loop-conclusion.invariant in
    left_next _ _ _ _ _ left c.conclude.ensures

-- none is left
pub returns : goal.returns
returns g c =
    let none : into_iter_items c.loop-conclusion.conclusion-iterator ≡ [] = grind (arith, common_steps) in
    left_none c.args.self.now c.loop-conclusion.self (rw none at c.loop-conclusion.invariant)
