use Rattle.std.proofs.Common.{arith, rules}
use Rattle.std.proofs.lemmas.Int.{ints}
use Rattle.fixed_num.specs.Micro.{IsInRange}
use Rattle.fixed_num.proofs.ReadBackLemmas.{spelled_reads_back}
use Rattle.fixed_num.proofs.laws.text_reads_back.Goals as goal

pub returns : goal.returns
returns c =
    let range : IsInRange c.args.number = search rules in
    spelled_reads_back c.args.number (omega (arith, ints))
