use Rattle.std.proofs.Common.{◌≡◌, ◌+◌, ◌-◌, ◌++◌, length}
use Rattle.fixed_num.proofs.SpellingLemmas.{low_digits}
use Rattle.fixed_num.proofs.text.Spelling.put_decimals.Given as goal

abbrev pub invariant-places : goal.invariant-places
invariant-places l = record {
  so_far : low_digits (6 - l._place) l.left ++ l.self ≡ low_digits 6 l.decimals ++ l.fn.self;
  room : length l.self ≡ length l.fn.self + l._place;
}
