use Rattle.std.proofs.Common.{◌+◌, ◌/◌, ◌%◌}
use Rattle.trace_text.proofs.PlaceLemmas.{pair_at, two_put}
use Rattle.trace_text.proofs.place.place_pair.Goals as goal

-- both digits stand in the table
pub returns-clause-placed : goal.returns-clause-placed
returns-clause-placed c =
    let p = pair_at c.args.pair c.requires.few in
    rw (p.0, p.1) (two_put c.args.bytes.now c.args.at (48 + c.args.pair / 10) (48 + c.args.pair % 10) c.requires.room)
