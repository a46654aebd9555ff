use Rattle.std.proofs.Common.{arith}
use Rattle.std.proofs.lemmas.Int.{ints, clamps}
use Rattle.ctl_shape.proofs.limiter.Limiter.allowed.Goals as goal

pub returns : goal.returns
returns c =
    rw (← c.self.view_is)
    (record {
      least_is = omega (
        arith,
        ints,
        clamps,
        c.max.ensures.value,
        c.self.invariant.longest,
        c.self.invariant.change,
        c.requires,
        c.ranges.last,
      );
      most_is = omega (
        arith,
        ints,
        clamps,
        c.min.ensures.value,
        c.self.invariant.longest,
        c.self.invariant.change,
        c.requires,
        c.ranges.last,
      );
      least_short =
          omega (
            arith,
            ints,
            clamps,
            c.max.ensures.value,
            c.self.invariant.longest,
            c.self.invariant.change,
            c.requires,
            c.ranges.last,
          );
      most_short =
          omega (
            arith,
            ints,
            clamps,
            c.min.ensures.value,
            c.self.invariant.longest,
            c.self.invariant.change,
            c.requires,
            c.ranges.last,
          );
    })
