-- What a count of one more entry asks.
use Rattle.std.specs.Prelude.{◌<◌, ◌^◌}
use Rattle.summary_text.specs.Counted.{Counted}
use Rattle.summary_text.specs.Few.{AreFew}

-- No count is too large, and that of the entries has room for one more.
pub record CanCount (c : Counted) : Type 0 where
  pub few : AreFew c
  pub room : c.entries < 2 ^ 64
