-- Why no count grows too large: an entry adds one to what counts entries or cycles, and as many items as a list can
-- have to the others.
use Rattle.std.specs.Prelude.{ℕ, ◌+◌, ◌*◌, ◌≤◌, ◌^◌}
use Rattle.summary_text.specs.Counted.{Counted}

-- how many requests were decided
abbrev pub outcomes : Counted → ℕ
outcomes c = c.done + c.refused + c.ended

-- the counts are small beside that of the entries
pub record AreFew (c : Counted) : Type 0 where
  pub cycles : c.cycles ≤ c.entries
  pub updates : c.updates ≤ c.entries * 2 ^ 64
  pub outcomes : outcomes c ≤ c.entries * 2 ^ 64
