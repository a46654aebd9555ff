use Rattle.std.proofs.Common.{map, refl, sym, subst, vec_capacity, ap, ◌∙◌}
use Rattle.cm_model.specs.State.{State}
use Rattle.cm_document.specs.declared.description.Description.{Description}
use Rattle.cm_resources.specs.CycleResources.{base_of}
use Rattle.cm_desk.specs.Works.{IsKept}
use Rattle.cm_desk.proofs.BootLemmas.{booted, kept_at_boot}
use Rattle.cm_desk.proofs.works.Works.boot.Goals as goal

-- nothing is loaded, and all is at start
pub invariant_of-result : goal.invariant_of-result
invariant_of-result g c =
    let start = c.in_ok-start.start in
    let box_places = vec_capacity c.new-2.result in
    let is = booted c.args.checked c.args.stock c.args.stock c.args.sessions c.none.result c.none-2.result
    start.resources box_places refl c.none.ensures c.none-2.ensures
    c.in_ok-start.ensures.resources in
    subst (λ (s : State). IsKept s c.in_ok-names.names.items (base_of start.resources box_places) start.active_set)
    (sym is)
    (kept_at_boot c.args.checked c.args.stock c.args.sessions c.in_ok-names.names.items start.resources box_places
    start.active_set c.description.ensures.valid
    (c.in_ok-names.ensures ∙ ap (map (λ c. c.name)) c.as_slice.ensures
    ∙ ap (λ (d : Description). map (λ c. c.name) d.controllers) c.description.ensures.same) c.is_few.ensures
    c.in_ok-start.ensures.resources c.in_ok-start.ensures.active_set)

pub returns-clause-booted : goal.returns-clause-booted
returns-clause-booted g c =
    booted c.args.checked c.args.stock c.args.stock c.args.sessions c.none.result c.none-2.result
    c.in_ok-start.start.resources (vec_capacity c.new-2.result) refl c.none.ensures c.none-2.ensures
    c.in_ok-start.ensures.resources
