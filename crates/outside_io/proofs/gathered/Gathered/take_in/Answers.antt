use Rattle.std.proofs.Common.{take, arith, length-take}
use Rattle.std.proofs.lemmas.Slice.{take-put_mid}
use Rattle.outside_io.proofs.gathered.Gathered.take_in.Goals as goal

-- the bytes stand behind those that waited
pub returns-clause-bytes : goal.returns-clause-bytes
returns-clause-bytes c =
    let len = c.self.inside.len in
    let count = c.min-count.result in
    rw (c.copy_from_slice.ensures.after, ← c.self.view_is)
    (take-put_mid len _ c.self.inside.bytes (take count c.args.piece.now) _
    (omega (arith, c.min-count.ensures, length-take count c.args.piece.now))
    (omega (arith, c.self.invariant, c.self.told)))
