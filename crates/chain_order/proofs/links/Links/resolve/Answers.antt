use Rattle.std.proofs.Common.{◌≡◌, ◌∙◌, ap, length, arith}
use Rattle.cm_model.specs.Order.{precedes_at}
use Rattle.chain_order.specs.Links.{places_below, each_below}
use Rattle.chain_order.proofs.LinkLemmas.{rows_of-IsLinks}
use Rattle.chain_order.proofs.links.Links.resolve.Goals as goal

pub invariant_of-result : goal.invariant_of-result
invariant_of-result c =
    let n = length c.args.controllers.now in
    let all : c.loop-place.place ≡ n = omega (arith, c.loop-place-test.false, c.loop-place.auto.place-end) in
    rw (c.loop-place.invariant
    ∙ ap (each_below (λ p. places_below (λ q. precedes_at c.args.controllers.now p q) n)) all)
    (rows_of-IsLinks (λ q p. precedes_at c.args.controllers.now p q) n c.requires)
