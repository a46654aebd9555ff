use Rattle.std.proofs.Common.{◌≡◌, drop}
use Rattle.std.specs.Prelude.{◌==◌, find}
use Rattle.std.specs.List.{list_any}
use Rattle.chain_order.specs.Links.{linked}
use Rattle.request_plan.proofs.moves.user_of.Given as goal

-- the controllers so far do not use it
abbrev pub invariant-loop-place : goal.invariant-loop-place
invariant-loop-place l =
    find (λ p. list_any (λ used. used == l.component) (linked l.relations.components p)) (drop l.place-index l.order)
    ≡ find (λ p. list_any (λ used. used == l.component) (linked l.relations.components p)) l.order
