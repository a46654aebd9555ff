use Rattle.std.proofs.Common.{◌≡◌, ℕ, List, ap, ◌∙◌}
use Rattle.std.specs.Prelude.{◌==◌}
use Rattle.std.specs.List.{list_any}
use Rattle.cm_model.specs.Components.{is_listed}
use Rattle.chain_order.specs.Links.{linked}
use Rattle.rt_flight.specs.Cells.{CellFacts, precedes_in}
use Rattle.rt_flight.proofs.TurnLemmas.{any_swapped}
use Rattle.rt_flight.proofs.cell.Cell.follows.Goals as goal

-- looked for the other way round
pub returns : goal.returns
returns g c =
    let w = c.args.relations.now in
    let cells = c.args.cells.now in
    let row : c.row-leaders.result.now ≡ linked w.leaders c.self.inside.workspace.place =
    c.row-leaders.ensures.row ∙ ap (λ (rows : List (List ℕ)). linked rows c.place.result) c.leaders.ensures
    ∙ ap (linked w.leaders) c.place.ensures in
    c.one_stands_in.ensures
    ∙ any_swapped (λ (place : ℕ) (d : CellFacts). place == d.workspace.place) c.row-leaders.result.now cells
    ∙ ap (λ (places : List ℕ). list_any (λ (d : CellFacts). is_listed places d.workspace.place) cells) row
    ∙ ap (λ (me : CellFacts). list_any (λ (d : CellFacts). precedes_in w d me) cells) c.self.view_is
