use Rattle.std.proofs.Common.{length, arith}
use Rattle.std.specs.Prelude.{◌&&◌, not}
use Rattle.std.proofs.lemmas.Bool.{and_left}
use Rattle.cm_model.specs.Order.{set_of}
use Rattle.chain_order.proofs.PlaceLemmas.{flags-long, flags-set, set_of-past}
use Rattle.chain_order.proofs.places.PlaceSet.without.Goals as goal

pub returns-clause-length : goal.returns-clause-length
returns-clause-length c =
    flags-long c.loop-place.flags.items (λ p. set_of c.args.self.now p && not (set_of c.args.other.now p))
    c.loop-place.place (length c.args.self.now) c.loop-place.invariant
    (omega (arith, c.loop-place-test.false, c.loop-place.auto.place-end, c.len-count.ensures))

pub returns-clause-set : goal.returns-clause-set
returns-clause-set c =
    flags-set c.loop-place.flags.items (λ p. set_of c.args.self.now p && not (set_of c.args.other.now p))
    c.loop-place.place (length c.args.self.now) c.loop-place.invariant
    (omega (arith, c.loop-place-test.false, c.loop-place.auto.place-end, c.len-count.ensures))
    (λ p above. and_left _ _ (set_of-past c.args.self.now p above))
