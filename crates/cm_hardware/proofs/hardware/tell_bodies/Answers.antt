use Rattle.std.proofs.Common.{◌≡◌, ◌+◌, ◌∷◌, [], drop, sym, ◌∙◌, append_assoc, arith}
use Rattle.cm_hardware.proofs.StateLemmas.{drop_found}
use Rattle.cm_hardware.proofs.hardware.tell_bodies.Goals as goal

-- one body more
pub loop-joint-preserved : goal.loop-joint-preserved
loop-joint-preserved c =
    let bodies = c.args.component.now.bodies in
    let next : drop c.loop-joint.joint bodies ≡ c.body.result ∷ drop (c.loop-joint.joint + 1) bodies =
    drop_found bodies c.loop-joint.joint c.body.result c.body.ensures in
    let room = rw next at c.loop-joint.invariant.room in
    record {
      items = rw c.push.ensures
          (append_assoc c.loop-joint.bodies.items (c.body.result ∷ []) (drop (c.loop-joint.joint + 1) bodies)
          ∙ rw (sym next) c.loop-joint.invariant.items);
      room = rw c.push.ensures (omega (arith, room));
      left = rw c.push.ensures (omega (arith, room, c.loop-joint.invariant.left));
    }
