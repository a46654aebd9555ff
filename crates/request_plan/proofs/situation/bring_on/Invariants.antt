use Rattle.std.proofs.Common.{◌≡◌, ◌++◌, drop, take, map}
use Rattle.request_plan.specs.Acts.{seen_after}
use Rattle.request_plan.proofs.situation.bring_on.Given as goal

-- what becomes of the controllers that are left is what becomes of all
abbrev pub invariant-loop-seen : goal.invariant-loop-seen
invariant-loop-seen l =
    take l.seen-index l.loaded ++ map (seen_after l.switched) (drop l.seen-index l.loaded)
    ≡ map (seen_after l.switched) l.fn.loaded
