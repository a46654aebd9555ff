use Rattle.std.proofs.Common.{◌≡◌, ◌++◌, drop}
use Rattle.cm_document.specs.Picks.{picked_names}
use Rattle.document_text.proofs.wish.picked_names.Given as goal

-- the names so far, and those of the rest
abbrev pub invariant-loop-pick : goal.invariant-loop-pick
invariant-loop-pick l = l.names ++ picked_names (drop l.pick-index l.picks) ≡ picked_names l.picks
