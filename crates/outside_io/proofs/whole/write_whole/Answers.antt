use Rattle.std.proofs.Common.{arith, ◌∙◌, length-drop}
use Rattle.std.proofs.lemmas.List.{take_rest}
use Rattle.outside_io.proofs.Turns.{taken-more}
use Rattle.outside_io.proofs.whole.write_whole.Goals as goal

pub loop-done-preserved : goal.loop-done-preserved
loop-done-preserved g c =
    let bytes = c.args.bytes.now in
    let done = c.loop-done.done in
    let before = c.loop-done.invariant in
    let count = rw (take_rest bytes done) at c.in_ok-done.ensures.some.0 in
    let took = rw (take_rest bytes done) at c.in_ok-done.ensures.bytes in
    record {
      within = omega (arith, length-drop done bytes, count);
      so_far = taken-more _ _ _ bytes done c.in_ok-done.field-0 before.so_far took;
      flushed = c.in_ok-done.ensures.flushed ∙ before.flushed;
      later = omega (arith, before.later, c.in_ok-done.ensures.cause.later);
      uncounted = c.in_ok-done.ensures.cause.uncounted ∙ before.uncounted;
    }
