use Rattle.std.proofs.Common.{sym, refl}
use Rattle.cm_document.proofs.BoundedLemmas.{found_below}
use Rattle.cm_document.proofs.bounded.first_below.Goals as goal

pub returns-in-Some : goal.returns-in-Some
returns-in-Some c =
    rw (
      sym (found_below (λ limit. limit.0.now) (λ limit. limit.1) (λ limit. limit.2) c.args.limits.now),
      sym c.first_low.ensures,
      c.in-Some.is,
    ) refl

pub returns-in-None : goal.returns-in-None
returns-in-None c =
    rw (
      sym (found_below (λ limit. limit.0.now) (λ limit. limit.1) (λ limit. limit.2) c.args.limits.now),
      sym c.first_low.ensures,
      c.in-None.is,
    ) refl
