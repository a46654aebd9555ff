-- A fallback that is none is told.
use Rattle.std.proofs.Common.{◌≡◌, ℕ, List, Some, Err, refl}
use Rattle.std.specs.Prelude.{find, not}
use Rattle.cm_document.specs.Valid.{can_stand_in, stand_in}
use Rattle.cm_document.specs.declared.description.CtlDesc.{CtlDesc}
use Rattle.cm_document.specs.declared.faults.CheckFault.TheVariants.{NoFallback}

-- the first fallback that cannot stand in is told
pub stand_in_unfit : (described : List (List ℕ)) (c : CtlDesc) (name : List ℕ)
    → Some name ≡ find (λ each. not (can_stand_in described c each)) c.fallback
    → stand_in described c ≡ Err (NoFallback c.name name)
stand_in_unfit described c name found = rw (← found, stand_in) refl
