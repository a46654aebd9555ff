use Rattle.std.proofs.Common.{arith, length-drop}
use Rattle.std.proofs.lemmas.List.{take_rest}
use Rattle.outside_io.proofs.Turns.{taken-more}
use Rattle.outside_io.proofs.retrying.write_out.Goals as goal

pub loop-done-preserved : goal.loop-done-preserved
loop-done-preserved g c =
    let bytes = c.args.bytes.now in
    let done = c.loop-done.done in
    let before = c.loop-done.invariant in
    let count = rw (take_rest bytes done) at c.in-Ok.ensures.within in
    let took = rw (take_rest bytes done) at c.in-Ok.ensures.bytes in
    record {
      within = omega (arith, length-drop done bytes, count);
      so_far = taken-more _ _ _ bytes done c.in-Ok.count before.so_far took;
    }
