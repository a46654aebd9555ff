use Rattle.std.proofs.Common.{◌≡◌, [], take, drop}
use Rattle.cm_document.specs.Valid.{repeated_after}
use Rattle.desc_check.proofs.names.repeated.Given as goal

-- what is left, looked through after what was seen, gives what the whole list gives
abbrev pub invariant-loop-index : goal.invariant-loop-index
invariant-loop-index g l =
    repeated_after g.T.PartialEq.eq (take l.index l.items) (drop l.index l.items)
    ≡ repeated_after g.T.PartialEq.eq [] l.items
