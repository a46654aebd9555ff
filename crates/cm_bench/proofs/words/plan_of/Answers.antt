use Rattle.std.proofs.Common.{arith}
use Rattle.cm_bench.proofs.WordLemmas.{list_of_two, of_two}
use Rattle.cm_bench.specs.Words.{AreOf}
use Rattle.cm_bench.proofs.words.plan_of.Goals as goal

-- the two words are all that there are
pub returns : goal.returns
returns c =
    let two = list_of_two c.args.words.now c.index-words-0.result c.index-words-1.result
    (omega (arith, c.if-words-ne2.false)) c.index-words-0.is c.index-words-1.is in
    let are = rw (c.as_str.ensures.value, c.as_str-2.ensures.value) at c.plan_of_two.ensures in
    rw two (of_two AreOf _ _ _ are)
