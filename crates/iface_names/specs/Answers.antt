-- What a reader's result says: the value, or the first fault. The same word stands in `sequence`, which this crate does
-- without.
use Rattle.std.specs.Prelude.{◌≡◌, ◌⊎◌, Result, Ok, Err, MatchResult}

-- The call answers what it is defined to, unless memory runs out: `memory` is the fault that says so.
abbrev pub Answers : {T E : Type 0} → E → Result T E → Result T E → Type 0
Answers memory expected result = MatchResult result (λ v. expected ≡ Ok v) (λ e. (e ≡ memory) ⊎ (expected ≡ Err e))
