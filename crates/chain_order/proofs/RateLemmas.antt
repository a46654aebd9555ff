-- Who is updated in each cycle.
use Rattle.std.proofs.Common.{◌≡◌, ℕ, ◌%◌, true, arith}
use Rattle.std.proofs.lemmas.Bool.{eq-eqb}
use Rattle.cm_model.specs.Order.{is_due}

-- once in a cycle is in each
pub always_due : (cycle : ℕ) → is_due cycle 1 ≡ true
always_due cycle = eq-eqb (cycle % 1) 0 (omega arith)
