use Rattle.std.proofs.Common.{◌≡◌, ◌++◌, drop}
use Rattle.std.specs.Prelude.{filter_map}
use Rattle.cm_places.specs.Listing.{state_in}
use Rattle.cm_places.proofs.rows.state_places.Given as goal

-- the places so far, and those of the names that are left, are all
abbrev pub invariant-loop-name : goal.invariant-loop-name
invariant-loop-name l =
    l.places ++ filter_map (state_in l.listed) (drop l.name-index l.names) ≡ filter_map (state_in l.listed) l.names
