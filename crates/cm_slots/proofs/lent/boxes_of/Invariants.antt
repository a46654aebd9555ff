use Rattle.std.proofs.Common.{◌≡◌, true, ◌+◌, ◌≤◌, ◌++◌, length, map, Some, option_map, is_some, vec_len, vec_capacity}
use Rattle.std.specs.List.{AllByRecursion}
use Rattle.std.specs.Vec.Iter.{into_iter_items}
use Rattle.cm_slots.proofs.lent.boxes_of.Given as goal

-- the boxes so far, and those that are left, are all; none of these is away, and there is room for them
abbrev pub invariant-loop-box_slot : goal.invariant-loop-box_slot
invariant-loop-box_slot g l = record {
  boxes : map Some (map g.C.Controller.meaning l.all.items)
      ++ map (option_map g.C.Controller.meaning) (into_iter_items l.box_slot-iterator)
      ≡ map (option_map g.C.Controller.meaning) l.fn.boxes.items;
  home : AllByRecursion (λ box. is_some box ≡ true)
      (map (option_map g.C.Controller.meaning) (into_iter_items l.box_slot-iterator));
  room : vec_len l.all + length (into_iter_items l.box_slot-iterator) ≤ vec_capacity l.all;
}
