use Rattle.std.proofs.lemmas.List.{get_or_default}
use Rattle.cm_model.specs.Components.{measured_at}
use Rattle.hw_component.specs.Drives.{states_in}
use Rattle.sequence.proofs.ListLemmas.{written_more}
use Rattle.hw_component.proofs.joints.measure.Goals as goal

pub loop-place-preserved : goal.loop-place-preserved
loop-place-preserved c =
    rw c.measured_at.ensures
    (written_more (measured_at (states_in c.args.bodies.now)) c.args.interfaces.now c.loop-place.places
    c.args.places.now c.loop-place.place _
    c.loop-place-test.true c.requires c.loop-place.invariant (get_or_default _ _ _ _ c.loop-place-test.true))
