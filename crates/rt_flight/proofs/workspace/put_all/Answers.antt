use Rattle.std.proofs.Common.{◌<◌, length, ◌∙◌, arith}
use Rattle.std.proofs.lemmas.List.{get_or_default, length-set}
use Rattle.cm_slots.proofs.UpdateLemmas.{put_more}
use Rattle.rt_flight.proofs.workspace.put_all.Goals as goal

pub loop-i-preserved : goal.loop-i-preserved
loop-i-preserved c =
    let within = c.loop-i-test.true in
    let among : c.loop-i.i < length c.args.outs.now = omega (arith, within, c.requires.each) in
    rw c.set.ensures (record {
      set = put_more c.loop-i.hardware c.args.claims.now c.args.outs.now c.loop-i.i _ c.index-outs-i.result within among
          (get_or_default _ _ _ _ within) c.index-outs-i.is ∙ c.loop-i.invariant.set;
      places = length-set c.loop-i.hardware.loans _ _ ∙ c.loop-i.invariant.places;
    })
