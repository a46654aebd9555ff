use Rattle.std.proofs.Common.{subst, sym}
use Rattle.cm_document.specs.Valid.{IsValid}
use Rattle.cm_document.specs.declared.description.Description.{Description}
use Rattle.desc_text.proofs.ReadableLemmas.{valid_IsReadable}
use Rattle.cm_top.proofs.upgrade.upgrade_document.Goals as goal

-- a checked description of the second version can be read back
pub print_description-requires : goal.print_description-requires
print_description-requires g c =
    let held = c.into_description-description in
    valid_IsReadable held.result (subst (λ (d : Description). IsValid d) (sym held.ensures.same) held.ensures.valid)
