use Rattle.std.proofs.Common.{◌≡◌, drop}
use Rattle.spawn_plan.specs.Wanted.{have_blanks}
use Rattle.spawn_plan.proofs.wanted.have_blanks.Given as goal

-- what is left finds the blanks that are left
abbrev pub invariant-loop-place : goal.invariant-loop-place
invariant-loop-place l =
    have_blanks l.controllers l.left (drop l.place-index l.places) ≡ have_blanks l.controllers l.fn.blanks l.places
