-- A source and a sink in memory, as contracts see them.
use Rattle.std.specs.Prelude.{ℕ, ◌==◌, ◌&&◌, ◌||◌, nat_lt, Bool, List, [], length}
use Rattle.outside_io.specs.Failing.{is_listed}

-- The bytes still to come, the most that one read gives, the numbers of the reads that fail, and how many reads there
-- were and failed.
pub record SourceView : Type 0 where
  pub left : List ℕ
  pub step : ℕ
  pub fails : List ℕ
  pub calls : ℕ
  pub faults : ℕ

-- The bytes taken, how many of them are flushed, for how many more there is room, the most that one write takes, the
-- numbers of the writes and flushes that fail, and how many of these there were and failed.
pub record SinkView : Type 0 where
  pub taken : List ℕ
  pub flushed : ℕ
  pub room : ℕ
  pub step : ℕ
  pub fails : List ℕ
  pub calls : ℕ
  pub faults : ℕ

-- a source of these bytes that was not read yet
abbrev pub unread : List ℕ → ℕ → List ℕ → SourceView
unread bytes step fails = record { left = bytes; step = step; fails = fails; calls = 0; faults = 0 }

-- a sink that was not written to yet
abbrev pub unwritten : ℕ → ℕ → List ℕ → SinkView
unwritten room step fails = record {
  taken = [];
  flushed = 0;
  room = room;
  step = step;
  fails = fails;
  calls = 0;
  faults = 0;
}

-- The next write fails if it is of this piece: its number is listed, or the piece has a byte and there is no room.
abbrev pub write_fails : SinkView → List ℕ → Bool
write_fails sink piece = is_listed sink.fails sink.calls || (nat_lt 0 (length piece) && sink.room == 0)
