-- Bytes that are put into a buffer behind those that count already.
use Rattle.std.specs.Prelude.{◌≡◌, ℕ, ◌+◌, List, ◌++◌, length, take}

-- behind the first bytes of a buffer these were put, up to this end; the buffer is as long as it was
pub record Placed (old new : List ℕ) (at : ℕ) (put : List ℕ) (end : ℕ) : Type 0 where
  pub front : take end new ≡ take at old ++ put
  pub moved : end ≡ at + length put
  pub len : length new ≡ length old
