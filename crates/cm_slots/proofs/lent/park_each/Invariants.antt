use Rattle.std.proofs.Common.{◌≡◌, ◌≤◌, length, map, take, option_map, vec_len, vec_capacity}
use Rattle.std.specs.List.{AllByRecursion}
use Rattle.cm_document.specs.declared.life.Life.TheVariants.{Active}
use Rattle.cm_slots.specs.Lent.{with_ctls, with_boxes}
use Rattle.cm_slots.specs.Lives.{IsKept}
use Rattle.cm_slots.proofs.lent.park_each.Given as goal

-- with those that are left all are back; each that is left runs
abbrev pub invariant-loop-ctl : goal.invariant-loop-ctl
invariant-loop-ctl g l = record {
  slots : with_ctls (take (vec_len l.lent) l.run) (map g.C.Controller.meaning l.lent.items) l.slots
      ≡ with_ctls l.run (map g.C.Controller.meaning l.fn.lent.items) l.fn.slots;
  boxes : with_boxes (take (vec_len l.lent) l.run) (map g.C.Controller.meaning l.lent.items)
      (map (option_map g.C.Controller.meaning) l.boxes)
      ≡ with_boxes l.run (map g.C.Controller.meaning l.fn.lent.items)
      (map (option_map g.C.Controller.meaning) l.fn.boxes);
  running : AllByRecursion (IsKept Active) (map g.C.Controller.meaning l.lent.items);
  within : vec_len l.lent ≤ length l.run;
  count : length l.slots ≡ length l.fn.slots;
  places : length l.boxes ≡ length l.fn.slots;
  capacity : vec_capacity l.lent ≡ vec_capacity l.fn.lent;
}

abbrev pub decreases-loop-ctl : goal.decreases-loop-ctl
decreases-loop-ctl g l = vec_len l.lent
