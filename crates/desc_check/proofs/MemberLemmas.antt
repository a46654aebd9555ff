-- A member that is none is told.
use Rattle.std.proofs.Common.{◌≡◌, ℕ, List, Some, Err, refl}
use Rattle.std.specs.Prelude.{find, not}
use Rattle.std.specs.List.{list_any}
use Rattle.iface_names.specs.Names.{same_name}
use Rattle.cm_document.specs.Valid.{are_described}
use Rattle.cm_document.specs.declared.description.GroupDesc.{GroupDesc}
use Rattle.cm_document.specs.declared.faults.CheckFault.TheVariants.{NoMember}

-- the first member that is not described is told
pub members_unknown : (described : List (List ℕ)) (g : GroupDesc) (name : List ℕ)
    → Some name ≡ find (λ each. not (list_any (same_name each) described)) g.members
    → are_described described g ≡ Err (NoMember g.name name)
members_unknown described g name found = rw (← found, are_described) refl
