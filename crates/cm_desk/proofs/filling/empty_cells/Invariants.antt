use Rattle.std.proofs.Common.{◌≡◌, ◌+◌, ◌++◌, length, map, vec_len, vec_capacity}
use Rattle.std.specs.Prelude.{reverse}
use Rattle.std.specs.List.{AllByRecursion}
use Rattle.cm_document.specs.declared.life.Life.TheVariants.{Active}
use Rattle.cm_slots.specs.Lives.{IsKept}
use Rattle.cm_desk.proofs.filling.empty_cells.Given as goal

-- those that left, and those that are in their cells yet, are all
abbrev pub invariant-loop-cell : goal.invariant-loop-cell
invariant-loop-cell g l = record {
  workspaces : l.workspaces.items ++ map (λ c. c.workspace) (reverse l.cells.items)
      ≡ map (λ c. c.workspace) l.fn.cells.items;
  boxes : map g.C.Controller.meaning l.boxes.items ++ map (λ c. c.ctl) (reverse l.cells.items)
      ≡ map (λ c. c.ctl) l.fn.cells.items;
  running : AllByRecursion (IsKept Active) (map g.C.Controller.meaning l.boxes.items);
  stood : length l.workspaces.items + length l.cells.items ≡ length l.fn.cells.items;
  counted : length l.boxes.items + length l.cells.items ≡ length l.fn.cells.items;
  stands : vec_capacity l.workspaces ≡ vec_capacity l.fn.workspaces;
  box_places : vec_capacity l.boxes ≡ vec_capacity l.fn.boxes;
}

abbrev pub decreases-loop-cell : goal.decreases-loop-cell
decreases-loop-cell g l = vec_len l.cells
