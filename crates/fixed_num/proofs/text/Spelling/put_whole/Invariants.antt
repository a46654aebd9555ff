use Rattle.std.proofs.Common.{◌≡◌, ◌+◌, ◌^◌, ◌≤◌, ◌++◌, length}
use Rattle.std.specs.Fmt.{decimal}
use Rattle.fixed_num.proofs.text.Spelling.put_whole.Given as goal

abbrev pub invariant-loop-left : goal.invariant-loop-left
invariant-loop-left l = record {
  so_far : decimal l.left ++ l.self ≡ decimal l.whole ++ l.fn.self;
  room : length (decimal l.left) + length l.self ≤ length l.fn.self + 10;
  small : l.left ≤ 10 ^ 9;
}

abbrev pub decreases-loop-left : goal.decreases-loop-left
decreases-loop-left l = l.left
