-- What the arithmetic of a step rests on.
use Rattle.std.proofs.lemmas.Int.{ints, to_z-of_z}
use Rattle.fixed_num.proofs.ArithmeticLemmas.{change_no_more, change_not_negative, clamped_in_range, within_clamped}

-- how large changes are, and of which sign
pub ruleset sizes = (ints, to_z-of_z, change_no_more, change_not_negative)

-- numbers that the range or a limit leaves as they are
pub ruleset ends = (ints, to_z-of_z, clamped_in_range, within_clamped)
