use Rattle.std.proofs.Common.{◌≡◌, to_z, of_z, w64, sym, subst, ◌∙◌, arith}
use Rattle.std.proofs.lemmas.Int.{ints}
use Rattle.ctl_shape.specs.Controllers.{CanBeLed, IsLedTo, at_pace}
use Rattle.ctl_shape.specs.declared.limits.Limits.{Limits}
use Rattle.ctl_shape.proofs.PacedLemmas.{leads_to}
use Rattle.ctl_shape.proofs.controllers.paced.Paced.advance.Goals as goal

pub returns-clause-next : goal.returns-clause-next
returns-clause-next c =
    let limits = c.self.inside.limits in
    let pace : limits ≡ at_pace c.args.self.now c.args.dt_us = c.self.view_is ∙ c.pace.ensures in
    let can : CanBeLed (at_pace c.args.self.now c.args.dt_us) c.args.at c.args.dt_us = record {
      above = c.requires.above;
      below = c.requires.below;
      no_longer = c.requires.no_longer;
    } in
    let here : CanBeLed limits c.args.at limits.dt_us =
    subst (λ (l : Limits). CanBeLed l c.args.at l.dt_us) (sym pace) can in
    let last : to_z w64 (of_z w64 c.micro.result) ≡ c.args.last =
    omega (arith, ints, c.micro.ensures.same, c.micro.ensures.range.0, c.micro.ensures.range.1) in
    let fits = c.micro.ensures.range in
    subst (λ (l : Limits). IsLedTo l c.args.at c.args.last c.args.wanted c.advance.result) pace
    (leads_to limits c.self.inside.limiter c.args.at c.args.last c.args.wanted c.advance.result c.self.invariant here
    (omega (arith, ints, fits.0, c.micro.ensures.same), omega (arith, ints, fits.1, c.micro.ensures.same))
    c.advance.ensures.above c.advance.ensures.below (rw last at c.advance.ensures.step))
