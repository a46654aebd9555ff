use Rattle.std.proofs.Common.{◌≡◌, ◌++◌, map}
use Rattle.std.specs.Vec.Iter.{into_iter_items}
use Rattle.ctl_any.specs.contracts.any_kind.AnyKindController.TheImpl.{ghosts}
use Rattle.ctl_any.specs.contracts.in_box.BoxedKindController.TheImpl.{ghosts as boxed}
use Rattle.ctl_any.proofs.in_box.in_boxes.Given as goal

-- those in boxes, and those that are left, are all
abbrev pub invariant-loop-controller : goal.invariant-loop-controller
invariant-loop-controller l =
    map boxed.meaning l.boxed.items ++ map ghosts.meaning (into_iter_items l.controller-iterator)
    ≡ map ghosts.meaning l.fn.controllers.items
