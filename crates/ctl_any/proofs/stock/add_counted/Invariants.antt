use Rattle.std.proofs.Common.{◌≡◌, drop, map}
use Rattle.cm_model.specs.declared.blanks.Blanks.{Blanks}
use Rattle.ctl_any.specs.Stocks.{with_some_of}
use Rattle.ctl_any.specs.contracts.any_kind.AnyKindController.TheImpl.{ghosts}
use Rattle.cm_stock.specs.Stocks.{AreBlanks}
use Rattle.ctl_any.proofs.stock.add_counted.Given as goal

-- the blanks so far, with those of each kind that is left, are those with those of each kind
abbrev pub invariant-loop-row : goal.invariant-loop-row
invariant-loop-row l = (b : Blanks) → AreBlanks ghosts.meaning l.fn.blanks.items b
    → (so_far : Blanks) × AreBlanks ghosts.meaning l.blanks.items so_far
    × (with_some_of l.counts so_far (map (λ row. row.1) (drop l.row-index l.kinds))
    ≡ with_some_of l.counts b (map (λ row. row.1) l.kinds))
