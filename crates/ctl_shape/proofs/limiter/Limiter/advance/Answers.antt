use Rattle.std.proofs.Common.{◌≡◌, ℤ, ◌+ℤ◌, ◌-ℤ◌, to_z, of_z, w64, subst, ◌∙◌, arith}
use Rattle.std.proofs.lemmas.Int.{ints}
use Rattle.fixed_num.proofs.ArithmeticLemmas.{clamped_in_range}
use Rattle.cm_model.specs.Limiters.{wanted_step}
use Rattle.ctl_shape.specs.Limiters.{IsNewStep}
use Rattle.ctl_shape.proofs.StepLemmas.{new_stays}
use Rattle.ctl_shape.proofs.limiter.Limiter.advance.Goals as goal

-- the step leads to a number of the range, so nothing is cut
leads : (c : goal.After-shifted) → c.shifted.result ≡ c.args.at +ℤ c.new_step.result
leads c =
    let back : to_z w64 (of_z w64 c.new_step.result) ≡ c.new_step.result =
    omega (arith, ints, c.new_step.ensures.small) in
    rw back at c.shifted.ensures.value
    ∙ clamped_in_range (c.args.at +ℤ c.new_step.result)
    (omega (arith, ints, c.new_step.ensures.lands.0, c.new_step.ensures.lands.1))

-- it was wanted so
is_new : (c : goal.After-shifted)
    → IsNewStep c.args.self.now c.args.at c.args.last (wanted_step c.args.self.now c.args.at c.args.wanted)
    c.new_step.result
is_new c =
    let wanted : to_z w64 (of_z w64 c.wanted_step-wanted.result) ≡ wanted_step c.args.self.now c.args.at c.args.wanted =
    let h = c.wanted_step-wanted.ensures.small in omega (arith, ints, h, c.wanted_step-wanted.ensures.step) in
    let last : to_z w64 (of_z w64 c.args.last) ≡ c.args.last = omega (arith, ints, c.ranges.last) in
    rw (wanted, last) at c.new_step.ensures.step

pub returns-clause-step : goal.returns-clause-step
returns-clause-step c =
    let same : c.new_step.result ≡ c.shifted.result -ℤ c.args.at = omega (arith, ints, leads c) in
    subst (λ (z : ℤ). IsNewStep c.args.self.now c.args.at c.args.last
    (wanted_step c.args.self.now c.args.at c.args.wanted) z) same (is_new c)

pub returns-clause-above : goal.returns-clause-above
returns-clause-above c =
    let stays = new_stays c.args.self.now c.args.at c.args.last (wanted_step c.args.self.now c.args.at c.args.wanted)
    c.new_step.result c.requires.above c.requires.below (is_new c) in
    omega (arith, ints, leads c, stays.0)

pub returns-clause-below : goal.returns-clause-below
returns-clause-below c =
    let stays = new_stays c.args.self.now c.args.at c.args.last (wanted_step c.args.self.now c.args.at c.args.wanted)
    c.new_step.result c.requires.above c.requires.below (is_new c) in
    omega (arith, ints, leads c, stays.1)
