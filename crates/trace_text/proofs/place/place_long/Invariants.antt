use Rattle.std.proofs.Common.{◌+◌, ◌-◌, ◌≤◌, length, take}
use Rattle.trace_text.specs.Placed.{Placed}
use Rattle.trace_text.proofs.place.place_long.Given as goal

-- the bytes so far are put, and 32 are left at least
abbrev pub invariant-loop-done : goal.invariant-loop-done
invariant-loop-done l =
    (l.done + 32 ≤ length l.text) × Placed l.fn.bytes l.bytes l.at (take l.done l.text) (l.at + l.done)

abbrev pub decreases-loop-done : goal.decreases-loop-done
decreases-loop-done l = length l.text - l.done
