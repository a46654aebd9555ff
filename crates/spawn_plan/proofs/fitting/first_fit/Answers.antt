use Rattle.std.proofs.Common.{◌≡◌, ◌<◌, false, List, length, map, sym, ◌∙◌, ap, subst, arith}
use Rattle.std.specs.Prelude.{◌||◌, not, position}
use Rattle.std.specs.List.{All}
use Rattle.std.proofs.lemmas.List.{length-replicate}
use Rattle.cm_document.specs.declared.description.CompDesc.{CompDesc}
use Rattle.cm_document.specs.declared.description.CtlDesc.{CtlDesc}
use Rattle.cm_document.specs.declared.description.Description.{Description}
use Rattle.cm_model.specs.Order.{set_of}
use Rattle.chain_order.specs.Links.{linked}
use Rattle.chain_order.proofs.LinkLemmas.{length-each_below}
use Rattle.chain_order.proofs.PlaceLemmas.{set_of-none}
use Rattle.switch_plan.specs.Relations.{Related, components_at}
use Rattle.spawn_plan.specs.Spans.{spans_of, least_of_rows, is_unready}
use Rattle.spawn_plan.proofs.FitLemmas.{end_of, first_fit_is}
use Rattle.spawn_plan.proofs.fitting.first_fit.Goals as goal

-- each controller has its row of components
pub common_span-requires : goal.common_span-requires
common_span-requires c =
    let d = c.args.checked.now in
    subst (λ n. All (λ place. place < n) c.args.places.now)
    (sym (ap (λ (r : Related). length r.components) c.requires.relations
    ∙ length-each_below (components_at d) (length d.controllers))) c.requires.within

-- the marks are those of the cycles in which one is not ready
pub returns : goal.returns
returns c =
    let d = c.args.checked.now in
    let rows = c.args.relations.now in
    let places = c.args.places.now in
    let described = c.description-description.result.now in
    let marks = c.mark_all.new.marks.items in
    let span = c.in_ok-span.span in
    let span_is : span ≡ end_of d places =
    c.in_ok-span.ensures
    ∙ ap (λ (cs : List CompDesc). least_of_rows (spans_of described.cycles cs) described.cycles
    (map (linked rows.components) places)) c.as_slice-components.ensures
    ∙ ap (λ (e : Description). least_of_rows (spans_of e.cycles e.components) e.cycles
    (map (linked rows.components) places)) c.description-description.ensures.same
    ∙ ap (λ (r : Related). least_of_rows (spans_of d.cycles d.components) d.cycles (map (linked r.components) places))
    c.requires.relations in
    let first_long : length c.in_ok-unready.unready.items ≡ span =
    ap length c.in_ok-unready.ensures ∙ length-replicate span false in
    c.first_unmarked.ensures
    ∙ ap (position (λ mark. not mark)) c.deref.ensures.value
    ∙ first_fit_is d places c.requires.within marks (c.mark_all.ensures.length ∙ first_long ∙ span_is) (λ k below.
    c.mark_all.ensures.marked k (omega (arith, below, first_long, span_is))
    ∙ ap (λ b. b || is_unready c.as_slice.result.now places k)
    (ap (λ items. set_of items k) c.in_ok-unready.ensures ∙ set_of-none span k)
    ∙ ap (λ (cs : List CtlDesc). is_unready cs places k)
    (c.as_slice.ensures ∙ ap (λ (e : Description). e.controllers) c.description-description.ensures.same))
