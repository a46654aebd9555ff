use Rattle.std.proofs.Common.{◌≡◌, ◌++◌, drop, map}
use Rattle.std.specs.Prelude.{filter_map}
use Rattle.cm_document.specs.Links.{reference_for}
use Rattle.cm_places.specs.Listing.{command_in}
use Rattle.cm_places.proofs.rows.reference_places.Given as goal

-- the places so far, and those of the references that are left, are all
abbrev pub invariant-loop-interface : goal.invariant-loop-interface
invariant-loop-interface l =
    l.places ++ filter_map (command_in l.listed)
    (map (reference_for l.controller.name) (drop l.interface-index l.interface-items))
    ≡ filter_map (command_in l.listed) (map (reference_for l.controller.name) l.interface-items)
