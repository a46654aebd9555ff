use Rattle.std.proofs.Common.{◌≡◌, drop}
use Rattle.cm_storage.proofs.bodies.are_same.Given as goal

-- they are the same if those that are left are
abbrev pub invariant-loop-i : goal.invariant-loop-i
invariant-loop-i l = drop l.i l.some ≡ drop l.i l.others → l.some ≡ l.others
