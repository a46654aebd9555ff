use Rattle.std.proofs.Common.{◌*◌, ◌≤◌, ◌≤ℤ◌, nat_abs}
use Rattle.fixed_num.specs.declared.TheConstants.{LARGEST}
use Rattle.cm_bench.specs.declared.cases.TheConstants.{LOWEST, HIGHEST}
use Rattle.cm_bench.proofs.cases.stands.Given as goal

-- it stands between the ends, and its last step was one between two ends of the range
abbrev pub invariant-loop-number : goal.invariant-loop-number
invariant-loop-number l = (LOWEST ≤ℤ l.stand.0) × ((l.stand.0 ≤ℤ HIGHEST) × (nat_abs l.stand.1.0 ≤ 2 * LARGEST))
