use Rattle.std.proofs.Common.{refl}
use Rattle.cm_document.specs.Params.{limits_at}
use Rattle.cm_document.proofs.BoundedLemmas.{bounded_by_first}
use Rattle.desc_check.proofs.ranges.limits_ranged.Goals as goal

pub returns-in-Some : goal.returns-in-Some
returns-in-Some c =
    rw (bounded_by_first c.args.prefix.now (limits_at c.args.params.now) _ c.below_least.ensures, c.in-Some.is)
    c.ranged.ensures

pub returns-in-None : goal.returns-in-None
returns-in-None c =
    rw (bounded_by_first c.args.prefix.now (limits_at c.args.params.now) _ c.below_least.ensures, c.in-None.is)
    refl
