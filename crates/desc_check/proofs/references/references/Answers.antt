use Rattle.desc_check.proofs.InterfaceLemmas.{references_more}
use Rattle.desc_check.proofs.references.references.Goals as goal

pub loop-controller-preserved : goal.loop-controller-preserved
loop-controller-preserved c =
    references_more c.args.controllers.now c.loop-controller.controller-index c.controller-item.result
    c.loop-controller.references c.push_references.new.references
    c.loop-controller-test.true c.controller-item.is c.loop-controller.invariant c.in_ok-push_references.ensures
