use Rattle.std.proofs.Common.{◌≡◌, ◌<◌, [], length, drop}
use Rattle.std.specs.Prelude.{All}
use Rattle.spawn_plan.specs.Wanted.{places_after}
use Rattle.spawn_plan.proofs.wanted.places_in.Given as goal

-- the places so far, and with those of the rest all
abbrev pub invariant-loop-name : goal.invariant-loop-name
invariant-loop-name l = record {
  within : All (λ place. place < length l.checked.controllers) l.places;
  all : places_after l.checked.controllers l.places (drop l.name-index l.wanted)
      ≡ places_after l.checked.controllers [] l.wanted;
}
