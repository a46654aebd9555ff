use Rattle.std.proofs.Common.{◌∙◌, subst, sym}
use Rattle.cm_document.specs.Valid.{IsValid}
use Rattle.cm_document.proofs.CopyLemmas.{same_description}
use Rattle.cm_document.proofs.checked.Checked.copy.Goals as goal

pub invariant_of-result : goal.invariant_of-result
invariant_of-result c = subst IsValid (sym (same_description _ _ c.in_ok-clone.ensures.cases)) c.self.invariant

pub returns : goal.returns
returns c = same_description _ _ c.in_ok-clone.ensures.cases ∙ c.self.view_is
