use Rattle.std.proofs.Common.{◌≡◌, ◌++◌, drop, map}
use Rattle.cm_places.specs.Listing.{listed_at}
use Rattle.cm_places.proofs.listed.push_kinds.Given as goal

-- those so far, and those of what is left, are all
abbrev pub invariant-loop-kind : goal.invariant-loop-kind
invariant-loop-kind l =
    l.listed.items ++ map (listed_at l.is_command l.joint) (drop l.kind-index l.kinds)
    ≡ l.fn.listed.items ++ map (listed_at l.is_command l.joint) l.kinds
