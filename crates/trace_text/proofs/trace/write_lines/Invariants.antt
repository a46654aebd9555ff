use Rattle.std.proofs.Common.{◌≡◌, take}
use Rattle.std.specs.Prelude.{flat_map}
use Rattle.std.specs.Io.KnownBytes.{Appends}
use Rattle.cm_model.specs.Trace.{line_text}
use Rattle.trace_text.proofs.trace.write_lines.Given as goal

-- the lines so far are taken
abbrev pub invariant-loop-entry : goal.invariant-loop-entry
invariant-loop-entry g l = record {
  so_far : Appends (g.K.Sink.taken l.fn.sink) (g.K.Sink.taken l.sink)
      (flat_map (line_text l.sessions l.names) (take l.entry-index l.history));
  flushed : g.K.Sink.flushed l.sink ≡ g.K.Sink.flushed l.fn.sink;
  uncounted : g.K.Sink.faults l.sink ≡ g.K.Sink.faults l.fn.sink;
  names : l.room.standing.names ≡ l.names;
}
