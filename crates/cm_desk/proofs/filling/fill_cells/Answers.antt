use Rattle.std.proofs.Common.{◌≡◌, ◌+◌, List, [], ◌∷◌, ◌++◌, length, get_or}
use Rattle.std.proofs.Common.{map, drop, Some, sym, ap, ap₂, subst, ◌∙◌, arith}
use Rattle.std.specs.Prelude.{reverse, slice_get}
use Rattle.std.specs.List.{AllByRecursion}
use Rattle.std.proofs.lemmas.List.{length-append}
use Rattle.std.proofs.lemmas.Option.{slice_get-get_or}
use Rattle.cm_document.specs.declared.life.Life.TheVariants.{Active}
use Rattle.cm_model.specs.State.{MailAloft}
use Rattle.cm_model.specs.declared.data.CtlData.{CtlData}
use Rattle.cm_slots.specs.Lives.{IsKept}
use Rattle.rt_flight.specs.Cells.{CellFacts}
use Rattle.cm_desk.specs.Filling.{cells_filled}
use Rattle.cm_desk.proofs.FillingLemmas.{popped, fill_next}
use Rattle.cm_desk.proofs.filling.fill_cells.Goals as goal

-- the next one stands there, runs, and has room
pub cell_for-requires : goal.cell_for-requires
cell_for-requires g c =
    let meaning = g.C.Controller.meaning in
    let own : map meaning (reverse c.loop-index.boxes.items)
    ≡ meaning c.in-Some-Some.ctl ∷ map meaning (reverse c.pop-in-loop-index.new.self.items) =
    ap (map meaning)
    (popped c.loop-index.boxes.items c.pop-in-loop-index.new.self.items c.in-Some-Some.ctl
    c.in-Some-Some.ensures'.items) in
    (subst (AllByRecursion (IsKept Active)) own c.loop-index.invariant.running).0

pub loop-index-preserved : goal.loop-index-preserved
loop-index-preserved g c =
    let meaning = g.C.Controller.meaning in
    let inv = c.loop-index.invariant in
    let k = c.loop-index.index-index in
    let run = c.args.run.now in
    let loaded = c.args.slots.now in
    let mails = c.loop-index.mails.items in
    let workspace = c.in-Some-Some.workspace in
    let ctl : CtlData = meaning c.in-Some-Some.ctl in
    let workspaces = c.pop.new.self.items in
    let boxes = map meaning (reverse c.pop-in-loop-index.new.self.items) in
    let within = c.loop-index-test.true in
    let slot = c.index-slots-index.result in
    let there : slice_get loaded (get_or run k 0) ≡ Some slot =
    slice_get-get_or loaded (get_or run k 0) slot (c.requires.within k 0 within)
    ∙ ap Some (sym c.index-slots-index.is) in
    let first : reverse c.loop-index.workspaces.items ≡ workspace ∷ reverse workspaces =
    popped c.loop-index.workspaces.items workspaces workspace c.in-Some-Some.ensures.items in
    let own : map meaning (reverse c.loop-index.boxes.items) ≡ ctl ∷ boxes =
    ap (map meaning)
    (popped c.loop-index.boxes.items c.pop-in-loop-index.new.self.items c.in-Some-Some.ctl
    c.in-Some-Some.ensures'.items) in
    record {
      all = ap₂ (λ (cells : List CellFacts) (ms : List MailAloft). cells
          ++ cells_filled loaded ms (drop (k + 1) run) (reverse workspaces) boxes)
          (c.push_reserved.ensures.items
          ∙ ap (λ (x : CellFacts). c.loop-index.cells.items ++ x ∷ []) c.cell_for.ensures.cell_for)
          c.cell_for.ensures.mails
          ∙ fill_next loaded mails run k (reverse c.loop-index.workspaces.items) (reverse workspaces) workspace
          (map meaning (reverse c.loop-index.boxes.items)) boxes ctl slot c.loop-index.cells.items within there first
          own
          ∙ inv.all;
      workspaces =
          omega (
            arith,
            inv.workspaces,
            ap length c.in-Some-Some.ensures.items,
            length-append workspaces (workspace ∷ []),
          );
      boxes = omega (
        arith,
        inv.boxes,
        ap length c.in-Some-Some.ensures'.items,
        length-append c.pop-in-loop-index.new.self.items (c.in-Some-Some.ctl ∷ []),
      );
      cells = omega (
        arith,
        inv.cells,
        ap length c.push_reserved.ensures.items,
        length-append c.loop-index.cells.items (c.cell_for.result ∷ []),
      );
      running = (subst (AllByRecursion (IsKept Active)) own inv.running).1;
      stands = c.pop.ensures.capacity ∙ inv.stands;
      box_places = c.pop-in-loop-index.ensures.capacity ∙ inv.box_places;
      room = c.push_reserved.ensures.capacity ∙ inv.room;
    }
