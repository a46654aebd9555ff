use Rattle.cm_hardware.proofs.CommitKeepLemmas.{build_committed}
use Rattle.cm_hardware.proofs.CommitLemmas.{commits}
use Rattle.cm_hardware.proofs.manager.ResourceManager.commit.Goals as goal

-- the commit of the hardware is that of the state
pub returns-clause-committed : goal.returns-clause-committed
returns-clause-committed c =
    rw (c.perform_all.ensures, c.lend_all.ensures)
    (commits c.args.places.now c.args.active.now c.args.stopped.now c.args.self.now)

pub returns-clause-build : goal.returns-clause-build
returns-clause-build c =
    rw (c.perform_all.ensures, c.lend_all.ensures)
    (build_committed c.args.places.now c.args.active.now c.args.stopped.now c.args.self.now)
