use Rattle.std.proofs.Common.{◌≡◌, ◌+◌, ◌++◌, length, map, drop, vec_capacity}
use Rattle.std.specs.Prelude.{reverse}
use Rattle.std.specs.List.{AllByRecursion}
use Rattle.cm_document.specs.declared.life.Life.TheVariants.{Active}
use Rattle.cm_slots.specs.Lives.{IsKept}
use Rattle.cm_desk.specs.Filling.{cells_filled}
use Rattle.cm_desk.proofs.filling.fill_cells.Given as goal

-- those that cells_filled, and those that are left, are all
abbrev pub invariant-loop-index : goal.invariant-loop-index
invariant-loop-index g l = record {
  all : l.cells.items
      ++ cells_filled l.slots l.mails.items (drop l.index-index l.run) (reverse l.workspaces.items)
      (map g.C.Controller.meaning (reverse l.boxes.items))
      ≡ cells_filled l.slots l.fn.mails.items l.run l.fn.workspaces.items (map g.C.Controller.meaning l.fn.boxes.items);
  workspaces : length l.workspaces.items + l.index-index ≡ length l.run;
  boxes : length l.boxes.items + l.index-index ≡ length l.run;
  cells : length l.cells.items ≡ l.index-index;
  running : AllByRecursion (IsKept Active) (map g.C.Controller.meaning (reverse l.boxes.items));
  stands : vec_capacity l.workspaces ≡ vec_capacity l.fn.workspaces;
  box_places : vec_capacity l.boxes ≡ vec_capacity l.fn.boxes;
  room : vec_capacity l.cells ≡ vec_capacity l.fn.cells;
}
