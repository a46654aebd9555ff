use Rattle.std.proofs.Common.{◌≡◌, [], take, drop}
use Rattle.iface_names.specs.Names.{same_name}
use Rattle.cm_document.specs.Valid.{repeated_after}
use Rattle.spawn_plan.proofs.wanted.repeated.Given as goal

-- what is left, looked through after what was seen, gives what the whole list gives
abbrev pub invariant-loop-index : goal.invariant-loop-index
invariant-loop-index l =
    repeated_after same_name (take l.index l.names) (drop l.index l.names) ≡ repeated_after same_name [] l.names
