use Rattle.std.proofs.Common.{◌≡◌, drop}
use Rattle.std.specs.Prelude.{find, ◌==◌}
use Rattle.switch_plan.proofs.members.loaded_at.Given as goal

-- the controllers so far have other places
abbrev pub invariant-loop-seen : goal.invariant-loop-seen
invariant-loop-seen l =
    find (λ s. s.place == l.place) (drop l.seen-index l.view.loaded.now)
    ≡ find (λ s. s.place == l.place) l.view.loaded.now
