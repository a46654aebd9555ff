use Rattle.std.proofs.Common.{sym, ◌∙◌, rules, tests}
use Rattle.std.proofs.lemmas.Iterator.{YieldsList-from_slice}
use Rattle.std.proofs.lemmas.Iterator.Search.{any_from_yields_List}
use Rattle.cm_document.specs.declared.description.CtlDesc.{CtlDesc}
use Rattle.iface_names.specs.Names.{same_name}
use Rattle.sequence.proofs.ListLemmas.{any_map}
use Rattle.desc_check.proofs.fallbacks.is_described.Goals as goal

-- one of the names is this one if a controller has it
pub returns : goal.returns
returns c =
    any_from_yields_List (λ (each : CtlDesc). same_name c.args.name.now each.name) _ _ _ c.any.ensures.ran
    (YieldsList-from_slice c.args.described.now cc) (λ x b q k. search (rules, tests))
    ∙ sym (any_map (same_name c.args.name.now) (λ (each : CtlDesc). each.name) c.args.described.now)
