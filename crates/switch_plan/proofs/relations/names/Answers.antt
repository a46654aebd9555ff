use Rattle.std.proofs.Common.{◌≡◌, ◌+◌, ◌<◌, ◌∙◌, List, ap, sym, get_or, length, take}
use Rattle.iface_names.specs.Names.{same_name}
use Rattle.indexmap.specs.IndexSet.{insert_key}
use Rattle.cm_document.specs.declared.description.CtlDesc.{CtlDesc}
use Rattle.cm_document.specs.declared.description.Description.{Description}
use Rattle.cm_document.proofs.ValidParts.{parts_of_valid}
use Rattle.switch_plan.proofs.NameLemmas.{names_of, name_last}
use Rattle.switch_plan.proofs.relations.names.Goals as goal

pub loop-controller-preserved : goal.loop-controller-preserved
loop-controller-preserved c =
    let d = c.args.checked.now in
    let i = c.loop-controller.controller-index in
    let one = c.controller-item.result in
    let name = c.in_ok-clone.field-0 in
    let same : c.as_slice-controllers.result.now ≡ d.controllers =
    c.as_slice-controllers.ensures ∙ ap (λ (d : Description). d.controllers) c.description.ensures.same in
    let below : i < length d.controllers = rw same at c.loop-controller-test.true in
    let is : one ≡ get_or d.controllers i one = rw same at c.controller-item.is in
    record {
      distinct = c.insert.ensures.unique;
      names =
          c.in_ok-insert.ensures.keys
          ∙ ap (λ names. insert_key same_name names name)
          (c.loop-controller.invariant.names ∙ ap (λ (cs : List CtlDesc). names_of (take i cs)) same)
          ∙ name_last d.controllers (parts_of_valid d c.description.ensures.valid).names.controllers i one below is
          name c.in_ok-clone.ensures.cases
          ∙ ap (λ (cs : List CtlDesc). names_of (take (i + 1) cs)) (sym same);
    }
