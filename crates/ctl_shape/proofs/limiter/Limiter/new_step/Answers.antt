use Rattle.std.proofs.Common.{◌≡◌, ℤ, to_z, of_z, w64, inl, inr, ap, subst, arith}
use Rattle.std.specs.Int.{int_min, int_max}
use Rattle.std.proofs.lemmas.Int.{ints, clamps}
use Rattle.cm_model.specs.Limiters.{Reach}
use Rattle.ctl_shape.specs.Capped.{IsCapped}
use Rattle.ctl_shape.proofs.StepLemmas.{allowed_is_new, not_allowed, nothing_is_new, new_lands, tried_in_bits}
use Rattle.ctl_shape.proofs.limiter.Limiter.new_step.Goals as goal

pub returns-then-least-most-clause-step : goal.returns-then-least-most-clause-step
returns-then-least-most-clause-step c =
    let last : to_z w64 (of_z w64 c.args.last) ≡ c.args.last = omega (arith, ints, c.ranges.last) in
    let allowed = rw last at c.allowed-least.ensures in
    nothing_is_new c.args.self.now c.args.at c.args.last c.args.wanted
    (omega (
      arith,
      ints,
      allowed.least_is,
      allowed.most_is,
      allowed.least_short,
      allowed.most_short,
      c.if-least-most.true,
    ))

pub cut-step-requires : goal.cut-step-requires
cut-step-requires c =
    let allowed = c.allowed-least.ensures in
    let change = ap (λ (r : Reach). r.change) c.self.view_is in
    record {
      above = c.requires.above;
      below = c.requires.below;
      some = omega (arith, change, c.if-self-eq0.false);
      short = omega (
        arith,
        ints,
        clamps,
        c.max.ensures.value,
        c.min.ensures.value,
        allowed.least_short,
        allowed.most_short,
        c.if-least-most.false,
        c.ranges.wanted,
      );
    }

pub returns-then-step-least-clause-step : goal.returns-then-step-least-clause-step
returns-then-step-least-clause-step c =
    let last : to_z w64 (of_z w64 c.args.last) ≡ c.args.last = omega (arith, ints, c.ranges.last) in
    let allowed = rw last at c.allowed-least.ensures in
    let least : ℤ = c.allowed-least.result.0 in
    let most : ℤ = c.allowed-least.result.1 in
    let tried : to_z w64 (of_z w64 c.min.result) ≡ int_min (int_max c.args.wanted least) most =
    tried_in_bits c.args.wanted least most c.max.result c.min.result allowed.least_short allowed.most_short
    (omega (arith, ints, c.ranges.wanted)) c.max.ensures.value c.min.ensures.value in
    let cut = rw tried at c.cut-step.ensures.nearest in
    not_allowed c.args.self.now c.args.at c.args.last c.args.wanted least most c.cut-step.result allowed.least_is
    allowed.most_is
    (omega (arith, ints, allowed.least_short, allowed.most_short, c.if-least-most.false)) cut
    (inl (omega (arith, ints, allowed.least_short, c.cut-step.ensures.small, c.if-step-least.true)))

pub returns-then-step-most-clause-step : goal.returns-then-step-most-clause-step
returns-then-step-most-clause-step c =
    let last : to_z w64 (of_z w64 c.args.last) ≡ c.args.last = omega (arith, ints, c.ranges.last) in
    let allowed = rw last at c.allowed-least.ensures in
    let least : ℤ = c.allowed-least.result.0 in
    let most : ℤ = c.allowed-least.result.1 in
    let tried : to_z w64 (of_z w64 c.min.result) ≡ int_min (int_max c.args.wanted least) most =
    tried_in_bits c.args.wanted least most c.max.result c.min.result allowed.least_short allowed.most_short
    (omega (arith, ints, c.ranges.wanted)) c.max.ensures.value c.min.ensures.value in
    let cut = rw tried at c.cut-step.ensures.nearest in
    not_allowed c.args.self.now c.args.at c.args.last c.args.wanted least most c.cut-step.result allowed.least_is
    allowed.most_is
    (omega (arith, ints, allowed.least_short, allowed.most_short, c.if-least-most.false)) cut
    (inr (omega (arith, ints, allowed.most_short, c.cut-step.ensures.small, c.if-step-most.true)))

pub returns-clause-step : goal.returns-clause-step
returns-clause-step c =
    let last : to_z w64 (of_z w64 c.args.last) ≡ c.args.last = omega (arith, ints, c.ranges.last) in
    let allowed = rw last at c.allowed-least.ensures in
    let least : ℤ = c.allowed-least.result.0 in
    let most : ℤ = c.allowed-least.result.1 in
    let tried : to_z w64 (of_z w64 c.min.result) ≡ int_min (int_max c.args.wanted least) most =
    tried_in_bits c.args.wanted least most c.max.result c.min.result allowed.least_short allowed.most_short
    (omega (arith, ints, c.ranges.wanted)) c.max.ensures.value c.min.ensures.value in
    let cut = rw tried at c.cut-step.ensures.nearest in
    let change = ap (λ (r : Reach). r.change) c.self.view_is in
    let same : to_z w64 (of_z w64 c.cut-step.result) ≡ c.cut-step.result =
    omega (arith, ints, c.cut-step.ensures.small) in
    rw same
    (allowed_is_new c.args.self.now c.args.at c.args.last c.args.wanted least most c.cut-step.result
    (omega (arith, change, c.if-self-eq0.false)) allowed.least_is allowed.most_is cut
    (omega (arith, ints, allowed.least_short, c.cut-step.ensures.small, c.if-step-least.false))
    (omega (arith, ints, allowed.most_short, c.cut-step.ensures.small, c.if-step-most.false)))

pub returns-clause-lands : goal.returns-clause-lands
returns-clause-lands c =
    let fits : IsCapped c.args.self.now = subst (λ (r : Reach). IsCapped r) c.self.view_is c.self.invariant in
    new_lands c.args.self.now c.args.at c.args.last c.args.wanted (to_z w64 (of_z w64 c.cut-step.result)) fits
    c.requires.above c.requires.below (returns-clause-step c)
