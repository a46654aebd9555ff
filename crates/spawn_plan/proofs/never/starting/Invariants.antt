use Rattle.std.proofs.Common.{◌≡◌, ◌++◌, drop, map}
use Rattle.cm_document.specs.declared.call.Pick.TheVariants.{One}
use Rattle.spawn_plan.proofs.never.starting.Given as goal

-- the names so far, and the rest
abbrev pub invariant-loop-name : goal.invariant-loop-name
invariant-loop-name l = l.on ++ map One (drop l.name-index l.wanted) ≡ map One l.wanted
