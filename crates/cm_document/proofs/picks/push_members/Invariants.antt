use Rattle.std.proofs.Common.{◌≡◌, ◌++◌, drop, map}
use Rattle.cm_document.specs.declared.call.Pick.TheVariants.{One}
use Rattle.cm_document.proofs.picks.push_members.Given as goal

-- those so far, and those that are left, are all
abbrev pub invariant-loop-name : goal.invariant-loop-name
invariant-loop-name l = l.list.items ++ map One (drop l.name-index l.members) ≡ l.fn.list.items ++ map One l.members
