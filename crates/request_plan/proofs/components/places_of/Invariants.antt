use Rattle.std.proofs.Common.{◌≡◌, ◌++◌, drop, map}
use Rattle.request_plan.proofs.components.places_of.Given as goal

-- the places so far, and those of the members that are left, are all
abbrev pub invariant-loop-member : goal.invariant-loop-member
invariant-loop-member l =
    l.places.items ++ map (λ m. m.place) (drop l.member-index l.members) ≡ map (λ m. m.place) l.members
