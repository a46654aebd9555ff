use Rattle.fixed_num.proofs.ArithmeticLemmas.{floor_is_greatest}
use Rattle.fixed_num.proofs.laws.division_rounds_down.Goals as goal

pub returns : goal.returns
returns c = floor_is_greatest
