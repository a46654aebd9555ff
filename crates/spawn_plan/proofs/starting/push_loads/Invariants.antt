use Rattle.std.proofs.Common.{◌≡◌, ◌++◌, drop, map}
use Rattle.cm_document.specs.declared.call.Call.TheVariants.{Load}
use Rattle.spawn_plan.proofs.starting.push_loads.Given as goal

-- the lines so far, and those of the rest
abbrev pub invariant-loop-name : goal.invariant-loop-name
invariant-loop-name l = l.lines ++ map Load (drop l.name-index l.names) ≡ l.fn.lines ++ map Load l.names
