use Rattle.std.proofs.Common.{[], map, refl, ap, sym, subst, ◌∙◌, arith}
use Rattle.std.proofs.lemmas.List.{drop_all}
use Rattle.cm_document.specs.declared.description.CtlKind.TheVariants.{Forward}
use Rattle.ctl_any.specs.Stocks.{with_some_of}
use Rattle.ctl_any.specs.contracts.any_kind.AnyKindController.TheImpl.{ghosts}
use Rattle.ctl_any.proofs.CountLemmas.{next_kind, no_kind_left}
use Rattle.cm_stock.specs.Stocks.{AreBlanks}
use Rattle.cm_stock.proofs.StockLemmas.{blanks_counted}
use Rattle.ctl_any.proofs.stock.add_counted.Goals as goal

pub loop-row-init : goal.loop-row-init
loop-row-init c = λ b are. (b, are, refl)

-- so many more of this kind, and then of those after it
pub loop-row-preserved : goal.loop-row-preserved
loop-row-preserved c = λ b are.
    let before = c.loop-row.invariant b are in
    next_kind (AreBlanks ghosts.meaning c.add_some.new.blanks.items) (λ row. row.1) c.args.counts.now before.0
    (with_some_of c.args.counts.now b (map (λ row. row.1) c.args.kinds.now)) c.args.kinds.now
    c.loop-row.row-index (record { ref_ptr = (0, 0); now = [] }, Forward) c.of.result c.loop-row-test.true c.of.ensures
    (c.in_ok-add_some.ensures before.0 before.1) before.2

pub returns : goal.returns
returns c = λ b are.
    let before = c.loop-row.invariant b are in
    let none = drop_all c.loop-row.row-index c.args.kinds.now (omega (arith, c.loop-row-test.false)) in
    let all = sym
    (no_kind_left c.args.counts.now before.0 (blanks_counted ghosts.meaning c.loop-row.blanks.items before.0 before.1))
    ∙ sym (ap (λ rows. with_some_of c.args.counts.now before.0 (map (λ row. row.1) rows)) none) ∙ before.2 in
    subst (AreBlanks ghosts.meaning c.loop-row.blanks.items) all before.1
