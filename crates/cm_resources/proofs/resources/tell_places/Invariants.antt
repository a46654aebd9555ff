use Rattle.std.proofs.Common.{◌≡◌, ◌++◌, drop, take, map}
use Rattle.cm_resources.specs.CycleResources.{place_among}
use Rattle.cm_resources.proofs.resources.tell_places.Given as goal

-- the places so far, and those of the serials that are left, are those of all
abbrev pub invariant-loop-serial : goal.invariant-loop-serial
invariant-loop-serial l =
    take l.serial-index l.serials ++ map (place_among l.members) (drop l.serial-index l.serials)
    ≡ map (place_among l.members) l.fn.serials
