use Rattle.std.proofs.Common.{◌≡◌, map}
use lib.Seq.{paste}
use Rattle.fixed_num.specs.declared.value.Value.TheVariants.{Num}
use Rattle.ctl_trait.proofs.set_part.set_numbers.Given as goal

abbrev pub invariant-loop-i : goal.invariant-loop-i
invariant-loop-i l = l.places ≡ paste l.initial.places 0 (map Num l.numbers) l.i
