use Rattle.std.proofs.Common.{map, ap, sym, ◌∙◌}
use Rattle.fixed_num.specs.declared.value.Value.TheVariants.{Num}
use Rattle.ctl_traj.proofs.SegmentLemmas.{led_at_end, led_before_end}
use Rattle.ctl_traj.proofs.lead.lead.Goals as goal

pub returns-in-Some-clause-outs : goal.returns-in-Some-clause-outs
returns-in-Some-clause-outs c =
    let given = led_at_end c.args.t c.args.hold.now c.args.from.now c.args.points.now c.in-Some.last.now
    (sym c.in-Some.ensures.value) c.if-last-t.true in
    c.set_numbers-in-Some.ensures ∙ ap (map Num) (c.as_slice.ensures ∙ sym given)

pub returns-in-Some-2-clause-outs : goal.returns-in-Some-2-clause-outs
returns-in-Some-2-clause-outs c =
    let given = led_before_end c.args.t c.args.hold.now c.args.from.now c.args.points.now c.in-Some.last.now
    (sym c.in-Some.ensures.value) c.if-last-t.false in
    c.lead_on.ensures.outs ∙ ap (map Num) (sym given)
