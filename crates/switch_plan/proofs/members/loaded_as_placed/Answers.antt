use Rattle.std.proofs.Common.{◌∙◌, ap, sym}
use Rattle.std.specs.Prelude.{position}
use Rattle.iface_names.specs.Names.{same_name}
use Rattle.switch_plan.specs.Relations.{Related}
use Rattle.switch_plan.specs.View.{scene_of}
use Rattle.switch_plan.proofs.NameLemmas.{none_of_name, found_at_place}
use Rattle.switch_plan.proofs.members.loaded_as_placed.Goals as goal

-- the name has no place
pub returns-in_err-place-clause-found : goal.returns-in_err-place-clause-found
returns-in_err-place-clause-found c =
    let name = c.args.name.now in
    c.from_residual.ensures
    ∙ sym (none_of_name (scene_of c.args.view.now) c.requires.view name
    (ap (λ (w : Related). position (same_name name) w.names) (sym c.requires.relations)
    ∙ sym c.in_err-place.ensures.place))

-- it has this place
pub returns-clause-found : goal.returns-clause-found
returns-clause-found c =
    let name = c.args.name.now in
    c.loaded_at.ensures.found
    ∙ found_at_place (scene_of c.args.view.now) c.requires.view
    (rw c.requires.relations at c.in_ok-place.ensures.distinct) name c.in_ok-place.place
    (ap (λ (w : Related). position (same_name name) w.names) (sym c.requires.relations)
    ∙ sym c.in_ok-place.ensures.place)
