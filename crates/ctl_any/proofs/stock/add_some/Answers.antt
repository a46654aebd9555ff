use Rattle.std.proofs.Common.{◌+◌, sym, subst}
use Rattle.cm_model.specs.Blanks.{blanks_of, with_count}
use Rattle.cm_model.specs.declared.blanks.Blanks.{Blanks}
use Rattle.ctl_any.proofs.CountLemmas.{none_more, one_counted}
use Rattle.ctl_any.specs.contracts.any_kind.AnyKindController.TheImpl.{ghosts}
use Rattle.cm_stock.specs.Stocks.{AreBlanks}
use Rattle.cm_stock.proofs.StockLemmas.{blanks_counted}
use Rattle.ctl_any.proofs.stock.add_some.Goals as goal

-- none more yet
pub loop-number-init : goal.loop-number-init
loop-number-init c = λ b are.
    subst (λ (x : Blanks). AreBlanks ghosts.meaning c.args.blanks.now.items x)
    (sym (none_more b c.args.kind (blanks_counted ghosts.meaning c.args.blanks.now.items b are))) are

-- one more of the kind
pub loop-number-preserved : goal.loop-number-preserved
loop-number-preserved c = λ b are.
    let kind = c.args.kind in
    let so_far = blanks_of b kind + c.loop-number._number in
    subst (λ (x : Blanks). AreBlanks ghosts.meaning c.add.new.blanks.items x) (one_counted b kind c.loop-number._number)
    (c.in_ok-add.ensures.counted (with_count b kind so_far) (c.loop-number.invariant b are))
