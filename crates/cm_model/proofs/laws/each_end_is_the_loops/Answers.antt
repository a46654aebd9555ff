use Rattle.std.proofs.Common.{refl}
use Rattle.cm_model.proofs.CountLemmas.{ends_are_the_loops}
use Rattle.cm_model.proofs.laws.each_end_is_the_loops.Goals as goal

pub returns : goal.returns
returns c = λ s history legal. ends_are_the_loops history s s.sessions refl legal
