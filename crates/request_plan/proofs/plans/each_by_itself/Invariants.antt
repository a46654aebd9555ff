use Rattle.std.proofs.Common.{◌≡◌, ◌++◌, map}
use Rattle.std.specs.Vec.Iter.{into_iter_items}
use Rattle.cm_document.specs.declared.call.Pick.TheVariants.{One}
use Rattle.request_plan.proofs.plans.each_by_itself.Given as goal

-- those so far, and those that are left, are all
abbrev pub invariant-loop-name : goal.invariant-loop-name
invariant-loop-name l = l.picks ++ map One (into_iter_items l.name-iterator) ≡ map One l.fn.names
