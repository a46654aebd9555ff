use Rattle.std.proofs.Common.{ℤ, subst}
use Rattle.fixed_num.specs.Micro.{IsInRange}
use Rattle.ctl_shape.proofs.limits.ends_in_range.Goals as goal

pub returns-clause-lowest : goal.returns-clause-lowest
returns-clause-lowest c = subst (λ (z : ℤ). IsInRange z) c.micro.ensures.same c.micro.ensures.range

pub returns-clause-highest : goal.returns-clause-highest
returns-clause-highest c = subst (λ (z : ℤ). IsInRange z) c.micro-2.ensures.same c.micro-2.ensures.range
