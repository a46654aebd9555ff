use Rattle.cm_model.specs.Blanks.{blanks_of, with_count}
use Rattle.cm_model.specs.declared.blanks.Blanks.{Blanks}
use Rattle.std.proofs.Common.{◌+◌}
use Rattle.ctl_any.specs.contracts.any_kind.AnyKindController.TheImpl.{ghosts}
use Rattle.cm_stock.specs.Stocks.{AreBlanks}
use Rattle.ctl_any.proofs.stock.add_some.Given as goal

-- so many more so far
abbrev pub invariant-loop-number : goal.invariant-loop-number
invariant-loop-number l =
    (b : Blanks) → AreBlanks ghosts.meaning l.fn.blanks.items b
    → AreBlanks ghosts.meaning l.blanks.items (with_count b l.kind (blanks_of b l.kind + l._number))
