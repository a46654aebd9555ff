use Rattle.std.proofs.Common.{◌≡◌, ◌+◌, ◌-◌, suc, length, ◌∙◌, arith}
use Rattle.cm_hardware.specs.Committed.{relent, all_relent, each_changed}
use Rattle.cm_hardware.proofs.commit.lend_places.Goals as goal

-- one place more
pub loop-place-preserved : goal.loop-place-preserved
loop-place-preserved c =
    let change = relent c.args.places.now c.args.active.now c.args.stopped.now in
    let place = c.loop-place.place in
    let left : length c.args.board.now - place ≡ suc (length c.args.board.now - (place + 1)) =
    omega (arith, c.loop-place-test.true, c.len-place-end.ensures.count) in
    let all : each_changed change place (suc (length c.args.board.now - (place + 1))) c.loop-place.board
    ≡ all_relent c.args.places.now c.args.active.now c.args.stopped.now c.args.board.now =
    rw left at c.loop-place.invariant.board in
    record {
      board = rw c.lend.ensures.board all;
      places = c.lend.ensures.places ∙ c.loop-place.invariant.places;
    }
