-- The time of a cycle of a valid description.
use Rattle.std.proofs.Common.{◌≡◌, ℕ, ◌*◌, ◌<◌, ◌≤◌, ◌^◌, arith}
use Rattle.cm_document.specs.Valid.{valid, IsValid}
use Rattle.cm_document.specs.declared.description.Description.{Description}
use Rattle.cm_model.specs.Cycle.{period}
use Rattle.std.proofs.lemmas.Nat.{mul-le}
use Rattle.hw_component.proofs.MakingLemmas.{valid_period}
use Rattle.cm_slots.specs.Updates.{Aloft, IsTimely}
use Rattle.cm_document.proofs.ValidParts.{parts_of_valid}

early_enough : (n p : ℕ) → n ≤ 100000 → p ≤ 1000000 → n * p < 2 ^ 64
early_enough n p few short = let most = mul-le n p 100000 1000000 few short in omega (arith, most)

-- the time of each described cycle can be told
pub timely : (d : Description) (a : Aloft) → IsValid d → a.number < d.cycles → a.period_us ≡ period d → IsTimely a
timely d a valid within same =
    let period_fits = valid_period d valid in
    let few = (parts_of_valid d valid).ranges.cycles in
    record {
      some_time = rw same period_fits.1;
      no_longer = rw same period_fits.2;
      time = rw same (early_enough a.number (period d) (omega (arith, within, few)) period_fits.2);
    }
