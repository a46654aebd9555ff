-- One turn of the loops over a source and a sink, and one read in memory.
use Rattle.std.proofs.Common.{◌≡◌, ℕ, ◌+◌, ◌≤◌, List, ◌++◌, length, take, drop, sym}
use Rattle.std.proofs.Common.{subst, arith, Option, length-append, take-append-drop}
use Rattle.std.proofs.Math.Seq.{take-add}
use Rattle.std.proofs.lemmas.List.{take_at, length-take, length-take-le, drop-drop}
use Rattle.std.specs.Io.KnownBytes.{Appends, Consumes}
use Rattle.std.proofs.KnownBytes.{Appends-trans, Consumes-trans}
use Rattle.outside_io.specs.Bytes.{TakesAtMost}

-- The sink took the first `done` bytes and then n of the rest: the first `done + n`.
pub taken-more : (a b c : Option (List ℕ)) (bytes : List ℕ) (done n : ℕ) → Appends a b (take done bytes)
    → Appends b c (take n (drop done bytes)) → Appends a c (take (done + n) bytes)
taken-more a b c bytes done n before now =
    subst (Appends a c) (sym (take-add done n bytes))
    (Appends-trans a b c (take done bytes) (take n (drop done bytes)) before now)

-- The source gave some bytes and then at most n: together no more than the bound.
pub given-more : (a b c : Option (List ℕ)) (before buffer : List ℕ) (n bound : ℕ) → Consumes a b before
    → Consumes b c (take n buffer) → length before + n ≤ bound → TakesAtMost a c bound
given-more a b c before buffer n bound first second fits = (
  before ++ take n buffer,
  omega (arith, length-append before (take n buffer), length-take n buffer),
  Consumes-trans a b c before (take n buffer) first second,
)

-- The bytes from `at` on are the n that were copied to the front of a buffer, and then the bytes from `at + n` on.
pub given-next : (bytes behind : List ℕ) (at n : ℕ) → n ≤ length (drop at bytes)
    → drop at bytes ≡ take n (take n (drop at bytes) ++ behind) ++ drop (at + n) bytes
given-next bytes behind at n fits =
    rw (take_at (take n (drop at bytes)) behind n (length-take-le n (drop at bytes) fits), ← drop-drop n at bytes)
    (sym (take-append-drop n (drop at bytes)))
