use Rattle.std.proofs.Common.{◌≡◌, ◌++◌, drop}
use Rattle.cm_desk.proofs.begin.push_names.Given as goal

-- the names so far, and those that are left, are those before and all further ones
abbrev pub invariant-loop-name : goal.invariant-loop-name
invariant-loop-name l = l.names ++ drop l.name-index l.further ≡ l.fn.names ++ l.further
