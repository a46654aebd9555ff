use Rattle.fixed_num.specs.Arithmetic.{floor_div}
use Rattle.cm_bench.proofs.limits.limiter.Goals as goal

pub returns : goal.returns
unfolding floor_div
returns c = rw (c.exact.ensures, c.exact-2.ensures, c.exact-3.ensures, c.exact-4.ensures) at c.of.ensures.value
