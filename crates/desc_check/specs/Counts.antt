-- How a machine counts.
use Rattle.std.specs.Prelude.{ℕ, ◌^◌, ◌-◌, min}

-- a number, or the largest of 64 bits where it is larger
abbrev pub counted : ℕ → ℕ
counted n = min n (2 ^ 64 - 1)
