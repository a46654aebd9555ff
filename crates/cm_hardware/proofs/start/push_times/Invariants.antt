use Rattle.std.proofs.Common.{◌≡◌, ◌-◌, ◌++◌, replicate}
use Rattle.cm_hardware.proofs.start.push_times.Given as goal

-- the places so far, and those that are left, are all
abbrev pub invariant-loop-place : goal.invariant-loop-place
invariant-loop-place l =
    l.places.items ++ replicate (l.times - l._place) l.component ≡ l.fn.places.items ++ replicate l.times l.component
