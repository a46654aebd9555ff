use Rattle.std.proofs.Common.{◌∙◌}
use Rattle.cm_resources.proofs.NeedsLemmas.{stands_same}
use Rattle.cm_resources.proofs.needs.fit_workspaces.Goals as goal

-- where the same flew last, the workspaces are theirs, and so are they who stood there
pub returns-then-are_workspaces_of-clause-run : goal.returns-then-are_workspaces_of-clause-run
returns-then-are_workspaces_of-clause-run c =
    let stands = rw (c.deref.ensures.value) at (c.are_workspaces_of.ensures c.if-are_workspaces_of.true) in
    record {
      workspaces = record { stands = stands; fitted = c.requires.kept.fitted };
      order =
          c.requires.kept.ordered ∙ stands_same _ _ stands;
    }
