use Rattle.cm_model.specs.Blanks.{blanks_of_each}
use Rattle.ctl_any.specs.contracts.any_kind.AnyKindController.TheImpl.{ghosts}
use Rattle.ctl_any.specs.contracts.in_box.BoxedKindController.TheImpl.{ghosts as boxed}
use Rattle.ctl_any.proofs.BoxLemmas.{AreBlanks-alike}
use Rattle.ctl_any.proofs.in_box.boxed_blanks.Goals as goal

-- they are as many in their boxes
pub returns : goal.returns
returns c =
    AreBlanks-alike boxed.meaning ghosts.meaning c.in_ok-boxed.boxed.items c.in_ok-controllers.controllers.items
    (blanks_of_each c.args.each) c.in_ok-boxed.ensures
    c.in_ok-controllers.ensures
