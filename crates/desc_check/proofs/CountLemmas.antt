-- Lemmas about counts.
use Rattle.std.proofs.Common.{◌≡◌, ℕ, ◌<◌, ◌^◌, ◌-◌, arith}
use Rattle.std.proofs.lemmas.Bool.Decides.{nat_tests}
use Rattle.cm_document.specs.Valid.{limited}
use Rattle.cm_document.specs.declared.faults.What.{What}
use Rattle.desc_check.specs.Counts.{counted}

-- a limit below the largest number of 64 bits is passed by a count where it is passed by the number
pub limited_counted : (what : What) (n limit : ℕ) → limit < 2 ^ 64 - 1
    → limited what (counted n) limit ≡ limited what n limit
limited_counted what n limit small = grind (arith, nat_tests)
