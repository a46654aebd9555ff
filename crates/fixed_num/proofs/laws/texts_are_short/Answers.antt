use Rattle.std.proofs.Common.{arith}
use Rattle.std.proofs.lemmas.Int.{ints}
use Rattle.fixed_num.proofs.ReadBackLemmas.{spelled_is_short}
use Rattle.fixed_num.proofs.laws.texts_are_short.Goals as goal

pub returns : goal.returns
returns c = λ n range. spelled_is_short n (omega (arith, ints))
