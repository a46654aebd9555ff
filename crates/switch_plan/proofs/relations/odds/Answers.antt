use Rattle.std.proofs.Common.{◌≡◌, ◌∙◌, ap, length, arith}
use Rattle.chain_order.specs.Links.{places_below, each_below}
use Rattle.chain_order.proofs.LinkLemmas.{rows_of-IsLinks}
use Rattle.switch_plan.specs.Relations.{at_odds}
use Rattle.switch_plan.proofs.relations.odds.Goals as goal

pub from_rows-requires : goal.from_rows-requires
from_rows-requires c =
    let n = length c.args.controllers.now in
    let all : c.loop-place.place ≡ n = omega (arith, c.loop-place-test.false, c.loop-place.auto.place-end) in
    rw (c.loop-place.invariant ∙ ap (each_below (λ p. places_below (at_odds c.args.controllers.now p) n)) all)
    (rows_of-IsLinks (λ q p. at_odds c.args.controllers.now p q) n c.requires)
