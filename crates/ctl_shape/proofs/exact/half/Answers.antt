use Rattle.std.proofs.Common.{◌≡◌, ◌≤◌, nat_abs, to_z, of_z, w64, arith}
use Rattle.std.proofs.lemmas.Int.{ints}
use Rattle.ctl_shape.proofs.TransmissionLemmas.{half_no_more}
use Rattle.ctl_shape.proofs.exact.half.Goals as goal

pub returns-clause-no_more : goal.returns-clause-no_more
returns-clause-no_more c =
    let sum : to_z w64 (of_z w64 c.args.sum) ≡ c.args.sum = omega (arith, ints, c.ranges.sum) in
    let less : nat_abs c.floor.result ≤ nat_abs c.args.sum = rw (c.floor.ensures, sum) (half_no_more c.args.sum) in
    omega (arith, ints, less, c.ranges.sum)
