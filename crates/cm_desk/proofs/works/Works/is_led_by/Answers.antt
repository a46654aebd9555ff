use Rattle.std.proofs.Common.{◌≡◌, ℕ, ◌<◌, ◌^◌, length, sym, ap, subst, ◌∙◌, arith, Fits, w32}
use Rattle.std.specs.Prelude.{is_some, slice_index_or, None}
use Rattle.std.specs.List.{list_any}
use Rattle.cm_document.proofs.ValidParts.{few_controllers}
use Rattle.cm_model.specs.Scene.{is_chained_in}
use Rattle.cm_model.specs.State.{State, active}
use Rattle.chain_order.specs.Links.{leaders_of, linked}
use Rattle.cm_resources.proofs.CommitLemmas.{places_within}
use Rattle.cm_resources.proofs.ActiveSetLemmas.{led_by}
use Rattle.cm_desk.proofs.EndLemmas.{leaders_count}
use Rattle.cm_desk.proofs.Insides.{state_of}
use Rattle.cm_desk.proofs.works.Works.is_led_by.Goals as goal

-- It is said of plain variables: beside all that is known of a desk a tactic reads long.
fits : (place n : ℕ) → place < n → n < 2 ^ 32 → Fits w32 place
fits place n below few = omega (arith, below, few)

pub overflow_cast-place : goal.overflow_cast-place
overflow_cast-place g c =
    let d = c.self.inside.checked in
    fits c.args.place (length d.controllers)
    (subst (λ (t : State). c.args.place < length t.description.controllers) (sym c.self.view_is) c.requires.within)
    (few_controllers d c.self.invariant.worked_out.valid)

pub row-requires : goal.row-requires
row-requires g c =
    subst (λ (n : ℕ). c.args.place < n) (sym (ap length c.requires.leaders ∙ leaders_count c.args.self.now.description))
    c.requires.within

pub returns : goal.returns
returns g c =
    let a = c.self.inside in
    let cs = a.checked.controllers in
    let leaders : c.args.leaders.now ≡ leaders_of cs =
    subst (λ (t : State). c.args.leaders.now ≡ leaders_of t.description.controllers) (sym c.self.view_is)
    c.requires.leaders in
    subst (λ (t : State). c.has_any.result ≡ is_chained_in t.description.controllers (active t) c.args.place)
    c.self.view_is
    (c.has_any.ensures
    ∙ ap (list_any (λ q. is_some (slice_index_or a.active_set.active q None)))
    (c.row.ensures.row ∙ ap (λ links. linked links c.args.place) leaders)
    ∙ led_by cs a.slots.loaded a.active_set.active (places_within a.checked a.slots.loaded c.self.invariant.described)
    c.self.invariant.listed.active c.args.place)
