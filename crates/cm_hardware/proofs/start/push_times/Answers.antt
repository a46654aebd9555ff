use Rattle.std.proofs.Common.{◌≡◌, ◌+◌, ◌-◌, suc, ◌∷◌, [], replicate, append_assoc, arith}
use Rattle.cm_hardware.proofs.start.push_times.Goals as goal

-- one more
pub loop-place-preserved : goal.loop-place-preserved
loop-place-preserved c =
    let left : c.args.times - c.loop-place._place ≡ suc (c.args.times - (c.loop-place._place + 1)) =
    omega (arith, c.loop-place-test.true) in
    let so_far = rw left at c.loop-place.invariant in
    rw (
      c.in_ok-push.ensures.items,
      append_assoc c.loop-place.places.items (c.args.component ∷ [])
          (replicate (c.args.times - (c.loop-place._place + 1)) c.args.component),
    ) so_far
