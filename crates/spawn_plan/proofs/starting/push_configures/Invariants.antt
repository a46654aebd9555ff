use Rattle.std.proofs.Common.{◌≡◌, ◌++◌, drop, map}
use Rattle.cm_document.specs.declared.call.Call.TheVariants.{Configure}
use Rattle.spawn_plan.proofs.starting.push_configures.Given as goal

-- the lines so far, and those of the rest
abbrev pub invariant-loop-name : goal.invariant-loop-name
invariant-loop-name l = l.lines ++ map Configure (drop l.name-index l.names) ≡ l.fn.lines ++ map Configure l.names
