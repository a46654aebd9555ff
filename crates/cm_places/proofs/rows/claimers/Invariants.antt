use Rattle.std.proofs.Common.{◌≡◌, ◌++◌, drop, map}
use Rattle.cm_places.specs.Listing.{claimers_in}
use Rattle.cm_places.proofs.rows.claimers.Given as goal

-- the rows so far, and those of the interfaces that are left, are all
abbrev pub invariant-loop-each : goal.invariant-loop-each
invariant-loop-each l =
    l.rows ++ map (claimers_in l.controllers) (drop l.each-index l.listed) ≡ map (claimers_in l.controllers) l.listed
