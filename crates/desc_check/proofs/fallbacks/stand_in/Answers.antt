use Rattle.std.proofs.Common.{Err, inr, sym, ap, map, ◌∙◌}
use Rattle.desc_check.proofs.FallbackLemmas.{stand_in_unfit}
use Rattle.desc_check.proofs.fallbacks.stand_in.Goals as goal

pub returns-in_ok-no_fallback-in-Some : goal.returns-in_ok-no_fallback-in-Some
returns-in_ok-no_fallback-in-Some c =
    inr (stand_in_unfit (map (λ each. each.name) c.args.described.now) c.args.controller.now c.in-Some.name.now
    (rw c.in-Some.is at c.unfit.ensures)
    ∙ ap (λ fault. Err fault) (sym c.in_ok-no_fallback-in-Some.ensures))
