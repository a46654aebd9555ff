use Rattle.std.proofs.Common.{◌≡◌, take}
use Rattle.cm_document.specs.Picks.{flat}
use Rattle.cm_document.proofs.picks.flat.Given as goal

-- what those so far stand for
abbrev pub invariant-loop-pick : goal.invariant-loop-pick
invariant-loop-pick l = l.list.items ≡ flat l.description (take l.pick-index l.picks)
