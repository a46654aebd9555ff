use Rattle.std.proofs.Common.{arith}
use Rattle.ctl_shape.proofs.limiter.Limiter.of.Goals as goal

pub invariant_of-result : goal.invariant_of-result
invariant_of-result c = record {
  lowest = c.ends_in_range.ensures.lowest;
  highest = c.ends_in_range.ensures.highest;
  longest = omega (arith, c.come_to.ensures);
  change = omega (arith, c.come_to-2.ensures);
}

pub returns-clause-cut : goal.returns-clause-cut
returns-clause-cut c = record {
  lowest = c.ends_in_range.ensures.lowest;
  highest = c.ends_in_range.ensures.highest;
  longest = omega (arith, c.come_to.ensures);
  change = omega (arith, c.come_to-2.ensures);
}
