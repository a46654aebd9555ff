use Rattle.std.proofs.Common.{◌≡◌, ◌++◌, drop}
use Rattle.cm_desk.specs.Works.{stand_ins_for}
use Rattle.cm_desk.proofs.begin.stand_ins.Given as goal

-- the names so far, and those of the places that are left, are all
abbrev pub invariant-loop-place : goal.invariant-loop-place
invariant-loop-place l =
    l.names ++ stand_ins_for l.checked (drop l.place-index l.places) ≡ stand_ins_for l.checked l.places
