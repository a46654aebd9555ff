use Rattle.std.proofs.Common.{◌≡◌, ℤ, pos, ◌-ℤ◌, neg_ℤ, to_z, of_z, w64, subst, arith}
use Rattle.std.proofs.lemmas.Int.{ints}
use Rattle.cm_model.specs.Limiters.{Reach}
use Rattle.ctl_shape.specs.Calls.Steps.{CanCut, IsCut}
use Rattle.ctl_shape.proofs.StepLemmas.{cut_up, cut_down}
use Rattle.ctl_shape.proofs.limiter.Limiter.cut.Goals as goal

pub returns-then-tried-lt0-clause-nearest : goal.returns-then-tried-lt0-clause-nearest
returns-then-tried-lt0-clause-nearest c =
    let reach : Reach =
    record {
      lowest = c.self.inside.lowest;
      highest = c.self.inside.highest;
      longest = c.self.inside.longest;
      change =
          c.self.inside.change;
    } in
    let can : CanCut reach c.args.at c.args.tried = rw (← c.self.view_is) at c.requires in
    let longest = c.farthest_to.result in
    let size = c.unsigned_abs-size.result in
    let tried : neg_ℤ (pos size) ≡ c.args.tried =
    omega (arith, ints, c.unsigned_abs-size.ensures.value, c.if-tried-lt0.true, c.ranges.tried) in
    let out : neg_ℤ (pos longest) ≡ to_z w64 (of_z w64 (pos 0 -ℤ to_z w64 longest)) =
    omega (arith, ints, c.farthest_to.ensures.no_more, tried, can.short) in
    let cut = cut_down reach c.args.at c.gap.result size longest can.some can.below c.gap.ensures.value
    c.farthest_to.ensures in
    rw (← c.self.view_is)
    (subst (λ (z : ℤ). IsCut reach c.args.at c.args.tried z) out
    (subst (λ (z : ℤ). IsCut reach c.args.at z (neg_ℤ (pos longest))) tried cut))

pub returns-else-tried-lt0-clause-nearest : goal.returns-else-tried-lt0-clause-nearest
returns-else-tried-lt0-clause-nearest c =
    let reach : Reach =
    record {
      lowest = c.self.inside.lowest;
      highest = c.self.inside.highest;
      longest = c.self.inside.longest;
      change =
          c.self.inside.change;
    } in
    let can : CanCut reach c.args.at c.args.tried = rw (← c.self.view_is) at c.requires in
    let longest = c.farthest_to-else-tried-lt0.result in
    let size = c.unsigned_abs-size.result in
    let tried : pos size ≡ c.args.tried =
    omega (arith, ints, c.unsigned_abs-size.ensures.value, c.if-tried-lt0.false, c.ranges.tried) in
    let out : pos longest ≡ to_z w64 longest =
    omega (arith, ints, c.farthest_to-else-tried-lt0.ensures.no_more, tried, can.short) in
    let cut = cut_up reach c.args.at c.gap-else-tried-lt0.result size longest can.some
    c.gap-else-tried-lt0.ensures.value c.farthest_to-else-tried-lt0.ensures in
    rw (← c.self.view_is)
    (subst (λ (z : ℤ). IsCut reach c.args.at c.args.tried z) out
    (subst (λ (z : ℤ). IsCut reach c.args.at z (pos longest)) tried cut))
