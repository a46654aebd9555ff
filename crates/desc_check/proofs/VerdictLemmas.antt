-- Lemmas about the checks together.
use Rattle.std.proofs.Common.{◌≡◌, Result, Ok, Err, ◌∙◌, ap, inl, inr}
use Rattle.std.specs.Prelude.{◌⊎◌}
use Rattle.cm_document.specs.Reading.{◌>>=◌}
use Rattle.cm_document.specs.Valid.{valid}
use Rattle.cm_document.specs.declared.description.Description.{Description}
use Rattle.cm_document.specs.declared.faults.CheckFault.{CheckFault}
use Rattle.cm_document.specs.declared.faults.CheckFault.TheVariants.{Memory}
use Rattle.cm_document.proofs.ReadingLemmas.{bind_Ok}
use Rattle.cm_document.proofs.ValidLemmas.{valid_same}
use Rattle.desc_check.specs.Verdict.{verdict}

-- a description without a fault is valid
pub valid_where_no_fault : (d : Description) → verdict d ≡ Ok tt → valid d ≡ Ok d
unfolding verdict
valid_where_no_fault d h =
    let whole = bind_Ok (valid d) (λ _. Ok tt) tt h in
    whole.1 ∙ ap (λ e. Ok e) (valid_same d whole.0 whole.1)

-- a fault stays the fault, whatever would have followed
fault_stays : {A B : Type 0} (r : Result A CheckFault) (b : B) (e : CheckFault) → (r >>= λ _. Ok b) ≡ Err e → r ≡ Err e
fault_stays (Ok a) b e h = cc
fault_stays (Err x) b e h = cc

-- the fault that is told is that of the description, or want of memory
pub fault_of_verdict : (d : Description) (e : CheckFault) → (e ≡ Memory) ⊎ (verdict d ≡ Err e)
    → (e ≡ Memory) ⊎ (valid d ≡ Err e)
unfolding verdict
fault_of_verdict d e (inl memory) = inl memory
fault_of_verdict d e (inr told) = inr (fault_stays (valid d) tt e told)
