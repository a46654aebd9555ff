use Rattle.std.proofs.Common.{◌+◌, List, [], ◌∷◌, ◌++◌, get_or, take, sym, subst}
use Rattle.std.proofs.lemmas.List.{take_more}
use Rattle.cm_model.specs.declared.member.Member.{Member}
use Rattle.rt_flight.specs.Workspaces.{WorkspaceFacts}
use Rattle.cm_resources.specs.CycleNeeds.{AreWorkspaces}
use Rattle.cm_resources.proofs.NeedsLemmas.{workspaces_pushed}
use Rattle.cm_resources.proofs.needs.workspaces_for.Goals as goal

-- one more has its workspace
pub loop-member-preserved : goal.loop-member-preserved
loop-member-preserved c =
    let placed = c.args.places.now in
    let order = c.args.order.now in
    let i = c.loop-member.member-index in
    let made = c.in_ok-workspace_for.ensures in
    let d : Member = record { serial = 0; place = 0 } in
    let m : Member = get_or order i d in
    subst (λ (ss : List WorkspaceFacts). AreWorkspaces placed (take (i + 1) order) ss) (sym c.in_ok-push.ensures.items)
    (subst (λ (ms : List Member). AreWorkspaces placed ms
    (c.loop-member.workspaces.items ++ c.in_ok-workspace_for.field-0 ∷ []))
    (sym (take_more order i d c.loop-member-test.true))
    (workspaces_pushed placed (take i order) m c.loop-member.workspaces.items c.in_ok-workspace_for.field-0
    c.loop-member.invariant made.stands made.fitted))
