use Rattle.std.proofs.Common.{◌≡◌, ◌+◌, ◌-◌, length, drop, ap, arith}
use Rattle.std.proofs.lemmas.List.{length-take, length-drop}
use Rattle.cm_hardware.proofs.hardware.Unit.perform.Goals as goal

-- there are no more claims than places of a board
pub gather-requires-clause-few : goal.gather-requires-clause-few
gather-requires-clause-few c =
    let rest = drop c.args.at c.loans.result.now in
    let same : length c.loans.result.now ≡ length c.args.board.now = ap length c.loans.ensures in
    omega (
      arith,
      length-take (c.args.at + c.len-count.result - c.args.at) rest,
      length-drop c.args.at c.loans.result.now,
      same,
      c.len.ensures.few,
    )
