use Rattle.std.proofs.Common.{◌≡◌, Option, Some, ap, sym, subst, ◌∙◌}
use Rattle.std.specs.Prelude.{IfSome}
use Rattle.fixed_num.specs.declared.value.Value.TheVariants.{Num}
use Rattle.ctl_shape.specs.Controllers.{Limited, IsLedOn}
use Rattle.ctl_shape.specs.declared.controllers.led.Led.{Led}
use Rattle.ctl_shape.proofs.PacedLemmas.{update_is}
use Rattle.ctl_shape.proofs.controllers.led.LedLimiter.update.Goals as goal

pub returns : goal.returns
returns c =
    let led = c.in-Some.led in
    let before : Limited = record { limits = c.self.inside.paced; run = Some led } in
    let after : Limited = record {
      limits = c.advance-at.new.self;
      run = Some (record { chained = led.chained; set = led.set; at = c.advance-at.result; step = c.sub.result });
    } in
    let given = update_is c.self.inside.paced led c.args.dt_us c.args.reference c.wanted_of-wanted.result
    c.advance-at.result c.sub.result
    c.wanted_of-wanted.ensures c.advance-at.ensures.next c.sub.ensures in
    let on : IsLedOn before after c.args.dt_us c.args.reference (Num c.advance-at.result) led = record {
      paced = c.advance-at.ensures.paced;
      part = ap Some given.0;
      output = given.1;
    } in
    let same : before ≡ c.args.self.now =
    ap (λ (r : Option Led). record { limits = c.self.inside.paced; run = r }) (sym c.in-Some.is) ∙ c.self.view_is in
    subst (λ (k : Limited). IfSome k.run (IsLedOn k after c.args.dt_us c.args.reference (Num c.advance-at.result))) same
    on
