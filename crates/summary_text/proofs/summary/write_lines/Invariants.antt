use Rattle.std.proofs.Common.{◌≡◌, take, string_bytes}
use Rattle.std.specs.Prelude.{flat_map}
use Rattle.std.specs.Io.KnownBytes.{Appends}
use Rattle.summary_text.proofs.summary.write_lines.Given as goal

-- the lines so far are taken
abbrev pub invariant-loop-line : goal.invariant-loop-line
invariant-loop-line g l = record {
  so_far : Appends (g.K.Sink.taken l.fn.sink) (g.K.Sink.taken l.sink)
      (flat_map string_bytes (take l.line-index l.lines));
  flushed : g.K.Sink.flushed l.sink ≡ g.K.Sink.flushed l.fn.sink;
  uncounted : g.K.Sink.faults l.sink ≡ g.K.Sink.faults l.fn.sink;
}
