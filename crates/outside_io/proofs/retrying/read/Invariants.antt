-- an interrupted read gave nothing
use Rattle.std.specs.Io.KnownBytes.{Keeps}
use Rattle.outside_io.proofs.retrying.read.Given as goal

abbrev pub invariant-loop : goal.invariant-loop
invariant-loop g l = Keeps (g.R.Read.remaining l.fn.reader) (g.R.Read.remaining l.reader)
