use Rattle.std.proofs.KnownBytes.{append_known-grown}
use Rattle.outside_io.proofs.std_edge.StdSinkSink.write.Goals as goal

-- the bytes that are taken wait behind the others
pub returns-clause-bytes : goal.returns-clause-bytes
returns-clause-bytes g c = append_known-grown _ _ _ _ _ c.make_room.ensures.bytes c.take_in.ensures.bytes
