use Rattle.std.proofs.Common.{◌≡◌, ◌+◌, ◌≤◌, ◌++◌, Some, map, drop, length, vec_len, vec_capacity}
use Rattle.std.specs.Prelude.{slice_get}
use Rattle.cm_resources.specs.ActiveSet.{serials_of}
use Rattle.cm_resources.proofs.active_set.index_all.Given as goal

-- those that stand there and those that are left are all, and there is room
abbrev pub invariant-loop-member : goal.invariant-loop-member
invariant-loop-member g l = record {
  at : map (slice_get (serials_of l.slots)) l.run.items ++ map (λ m. Some m.serial) (drop l.member-index l.order)
      ≡ map (λ m. Some m.serial) l.order;
  room : vec_len l.run + length (drop l.member-index l.order) ≤ vec_capacity l.run;
}
