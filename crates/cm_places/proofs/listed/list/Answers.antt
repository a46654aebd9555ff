use Rattle.cm_document.proofs.ValidParts.{few_controllers}
use Rattle.cm_places.proofs.MakingLemmas.{all_listed}
use Rattle.cm_places.proofs.listed.list.Goals as goal

pub push_controllers-requires : goal.push_controllers-requires
push_controllers-requires c =
    rw (c.as_slice.ensures, c.description-description.ensures.same)
    (few_controllers c.args.checked.now c.description-description.ensures.valid)

-- states, commands and references are all interfaces
pub returns : goal.returns
returns c =
    rw (
      c.in_ok-push_controllers.ensures,
      c.in_ok-push_components-2.ensures,
      c.in_ok-push_components.ensures,
      c.new-listed.ensures.items,
      c.as_slice.ensures,
      c.as_slice-components.ensures,
      c.description-description.ensures.same,
    )
    (all_listed c.args.checked.now)
