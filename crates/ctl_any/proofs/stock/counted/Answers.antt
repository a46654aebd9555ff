use Rattle.std.proofs.Common.{rules, sym, subst, ◌∙◌}
use Rattle.cm_model.specs.Blanks.{no_blanks}
use Rattle.cm_model.specs.declared.blanks.Blanks.{Blanks}
use Rattle.ctl_any.proofs.CountLemmas.{all_counted}
use Rattle.ctl_any.specs.contracts.any_kind.AnyKindController.TheImpl.{ghosts}
use Rattle.cm_stock.specs.Stocks.{AreBlanks}
use Rattle.ctl_any.proofs.stock.counted.Goals as goal

-- so many of each kind, one kind after the other
pub returns : goal.returns
returns c =
    let counts = c.args.counts.now in
    subst (λ (x : Blanks). AreBlanks ghosts.meaning c.add_counted.new.blanks.items x)
    (all_counted counts ∙ sym c.are_counted.ensures) (c.in_ok-add_counted.ensures no_blanks (search rules))
