use Rattle.std.proofs.Common.{◌≡◌, ◌++◌, drop, map}
use Rattle.cm_places.specs.Listing.{referring}
use Rattle.cm_places.proofs.listed.push_references.Given as goal

-- those so far, and those of what is left, are all
abbrev pub invariant-loop-interface : goal.invariant-loop-interface
invariant-loop-interface l =
    l.listed.items ++ map (referring l.place l.controller.name) (drop l.interface-index l.interface-items)
    ≡ l.fn.listed.items ++ map (referring l.place l.controller.name) l.interface-items
