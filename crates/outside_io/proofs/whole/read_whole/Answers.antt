use Rattle.std.proofs.Common.{◌+◌, ◌≤◌, length, arith}
use Rattle.std.proofs.lemmas.List.{length-take}
use Rattle.outside_io.proofs.Turns.{given-more}
use Rattle.outside_io.proofs.whole.read_whole.Goals as goal

pub returns-in-Err-extend_from_slice-clause-at_most :
    goal.returns-in-Err-extend_from_slice-clause-at_most
returns-in-Err-extend_from_slice-clause-at_most g c =
    let before = c.loop-buffer.bytes.items in
    let fits : length before + c.in-Ok.count ≤ c.args.limit + 1 =
    omega (arith, c.read.auto.buf, c.in-Ok.ensures.within, length-take c.min-room.result c.loop-buffer.buffer) in
    given-more _ _ _ before c.read.new.buf c.in-Ok.count (c.args.limit + 1) c.loop-buffer.invariant.so_far
    c.in-Ok.ensures.bytes.0 fits
