use Rattle.std.specs.Vec.Iter.{into_iter_items}
use Rattle.cm_desk.proofs.BeginLemmas.{IsLeft}
use Rattle.cm_desk.proofs.works.Works.decide_all.Given as goal

-- what is left to be done leads to where all leads that waits
abbrev pub invariant-loop-conclusion : goal.invariant-loop-conclusion
invariant-loop-conclusion g l = IsLeft l.fn.self l.self (into_iter_items l.conclusion-iterator)
