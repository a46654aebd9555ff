-- What writes and flushes of a sink in memory promise beside what every sink does.
use Rattle.std.specs.Prelude.{◌≡◌, ℕ, ◌+◌, min, List, length, Result, is_err, IfOk}
use Rattle.outside_io.specs.Failing.{is_listed}
use Rattle.outside_io.specs.Faults.{one_more}
use Rattle.outside_io.specs.InMemory.{SinkView, write_fails}

-- a call of this sink, before and after, whatever it came to
pub record Stays (sink sink' : SinkView) : Type 0 where
  pub step : sink'.step ≡ sink.step
  pub fails : sink'.fails ≡ sink.fails
  pub calls : sink'.calls ≡ one_more sink.calls

-- A write of a piece into this sink, before and after.
pub record Takes {E : Type 0} (sink sink' : SinkView) (piece : List ℕ) (result : Result ℕ E) : Type 0 where
  pub fails_exactly : is_err result ≡ write_fails sink piece
  -- as many bytes as step, piece and room allow
  pub count : IfOk result (λ n. n ≡ min (min sink.step (length piece)) sink.room)
  -- what is flushed stays so
  pub flushed : sink'.flushed ≡ sink.flushed
  -- what it took is room no more
  pub room : sink'.room + length sink'.taken ≡ sink.room + length sink.taken
  pub stays : Stays sink sink'

-- A flush of this sink, before and after.
pub record Flushes {T E : Type 0} (sink sink' : SinkView) (result : Result T E) : Type 0 where
  pub fails_exactly : is_err result ≡ is_listed sink.fails sink.calls
  pub room : sink'.room ≡ sink.room
  pub stays : Stays sink sink'
