use Rattle.std.proofs.lemmas.Fmt.{decimal_digit}
use Rattle.trace_text.proofs.numbers.place_whole.Goals as goal

-- one digit
pub returns-then-whole-lt10-clause-placed : goal.returns-then-whole-lt10-clause-placed
returns-then-whole-lt10-clause-placed c =
    rw (decimal_digit c.args.whole c.if-whole-lt10.true) c.place_byte.ensures.placed
