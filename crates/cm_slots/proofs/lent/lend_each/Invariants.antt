use Rattle.std.proofs.Common.{◌≡◌, ◌+◌, ◌≤◌, ◌++◌, length, map, drop, option_map, vec_len, vec_capacity}
use Rattle.std.specs.List.{AllByRecursion}
use Rattle.cm_document.specs.declared.life.Life.TheVariants.{Active}
use Rattle.cm_slots.specs.Lent.{without_boxes, ctls_at, CanLeave}
use Rattle.cm_slots.specs.Lives.{IsKept}
use Rattle.cm_slots.proofs.lent.lend_each.Given as goal

-- those that are left can leave, and then all have left; what is away runs, and there is room
abbrev pub invariant-loop-index : goal.invariant-loop-index
invariant-loop-index g l = record {
  can : CanLeave l.slots (drop l.index-index l.run) (map (option_map g.C.Controller.meaning) l.boxes);
  left : without_boxes (drop l.index-index l.run) (map (option_map g.C.Controller.meaning) l.boxes)
      ≡ without_boxes l.run (map (option_map g.C.Controller.meaning) l.fn.boxes);
  lent : map g.C.Controller.meaning l.lent.items ++ ctls_at l.slots (drop l.index-index l.run)
      ≡ map g.C.Controller.meaning l.fn.lent.items ++ ctls_at l.slots l.run;
  running : AllByRecursion (IsKept Active) (map g.C.Controller.meaning l.fn.lent.items)
      → AllByRecursion (IsKept Active) (map g.C.Controller.meaning l.lent.items);
  places : length l.boxes ≡ length l.slots;
  room : vec_len l.lent + length (drop l.index-index l.run) ≤ vec_capacity l.lent;
  capacity : vec_capacity l.lent ≡ vec_capacity l.fn.lent;
}
