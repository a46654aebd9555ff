use Rattle.std.proofs.Common.{arith}
use Rattle.std.proofs.lemmas.Int.{ints}
use Rattle.fixed_num.proofs.ReadBackLemmas.{spelled_reads_back, number_of_small}
use Rattle.fixed_num.proofs.laws.spelling_keeps_the_number.Goals as goal

pub returns : goal.returns
returns c = record {
  in_range = λ n read.
      (let small = number_of_small c.args.text.now n read in (omega (arith, ints), omega (arith, ints)));
  same = λ n read. spelled_reads_back n (number_of_small c.args.text.now n read);
}
