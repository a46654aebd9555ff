use Rattle.cm_resources.proofs.NeedsLemmas.{kept_for}
use Rattle.cm_resources.proofs.needs.renew_workspaces.Goals as goal

-- they are new
pub returns-clause-kept : goal.returns-clause-kept
returns-clause-kept c = kept_for _ c.args.order.now _ _ c.in_ok-others.ensures c.in_ok-who.ensures
