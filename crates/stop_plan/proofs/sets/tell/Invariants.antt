use Rattle.std.proofs.Common.{◌≡◌, ◌≤◌, ◌++◌, length, map, take, drop}
use Rattle.std.specs.Prelude.{filter}
use Rattle.cm_model.specs.Order.{set_of}
use Rattle.stop_plan.proofs.sets.tell.Given as goal

-- the serials so far, and room for the others
abbrev pub invariant-loop-member : goal.invariant-loop-member
invariant-loop-member l = record {
  so_far : l.stops.items
      ≡ l.fn.stops.items ++ map (λ m. m.serial) (filter (λ m. set_of l.set m.place) (take l.member-index l.members));
  room : length (drop l.member-index l.members) ≤ l.stops.room;
}
