use Rattle.trace_text.proofs.PlaceLemmas.{two_put, none_put}
use Rattle.trace_text.proofs.place.place_separator.Goals as goal

-- a separator
pub returns-then-started-clause-placed : goal.returns-then-started-clause-placed
returns-then-started-clause-placed c = rw c.if-started.true (two_put c.args.bytes.now c.args.at 59 32 c.requires)

-- nothing
pub returns-clause-placed : goal.returns-clause-placed
returns-clause-placed c = rw c.if-started.false (none_put c.args.bytes.now c.args.at 59 32)
