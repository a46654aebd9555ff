use Rattle.std.proofs.Common.{◌≡◌, ◌++◌, drop}
use Rattle.std.specs.Prelude.{filter_map}
use Rattle.cm_model.specs.State.{controller_line}
use Rattle.cm_desk.proofs.works.Works.controllers.Given as goal

-- the lines so far, and the lines of what is left, are all lines
abbrev pub invariant-loop-slot : goal.invariant-loop-slot
invariant-loop-slot g l =
    l.lines ++ filter_map (controller_line l.self) (drop l.slot-index l.slot-items)
    ≡ filter_map (controller_line l.self) l.slot-items
