use Rattle.std.proofs.Common.{◌≡◌, ◌++◌, drop, map}
use Rattle.std.specs.Prelude.{filter_map}
use Rattle.cm_document.specs.Links.{refs_of}
use Rattle.cm_places.specs.Listing.{command_in}
use Rattle.cm_places.proofs.rows.references.Given as goal

-- the rows so far, and those of the controllers that are left, are all
abbrev pub invariant-loop-controller : goal.invariant-loop-controller
invariant-loop-controller l =
    l.rows ++ map (λ c. filter_map (command_in l.listed) (refs_of c)) (drop l.controller-index l.controllers)
    ≡ map (λ c. filter_map (command_in l.listed) (refs_of c)) l.controllers
