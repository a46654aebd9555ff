use Rattle.std.proofs.Common.{◌≡◌, ◌++◌, drop}
use Rattle.cm_places.specs.Listing.{listed_controllers}
use Rattle.cm_places.proofs.listed.push_controllers.Given as goal

-- those so far, and those of what is left, are all
abbrev pub invariant-loop-place : goal.invariant-loop-place
invariant-loop-place l =
    l.listed.items ++ listed_controllers l.place (drop l.place l.controllers)
    ≡ l.fn.listed.items ++ listed_controllers 0 l.controllers
