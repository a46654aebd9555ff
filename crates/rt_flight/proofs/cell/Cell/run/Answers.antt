use Rattle.std.proofs.Common.{ap, ◌∙◌, Some}
use Rattle.cm_model.specs.declared.data.CtlData.{CtlData}
use Rattle.cm_slots.proofs.UpdateLemmas.{step_kind}
use Rattle.rt_flight.specs.Cells.{post_of}
use Rattle.rt_flight.proofs.PostLemmas.{post_stays}
use Rattle.rt_flight.proofs.cell.Cell.run.Goals as goal

pub returns-clause-post : goal.returns-clause-post
returns-clause-post g c =
    let own = c.self.inside in
    let kind = ap (λ (x : CtlData). x.kind) c.step.ensures.step.ctl
    ∙ step_kind own.running c.args.tick own.workspace.states own.workspace.references c.take-mail.result in
    post_stays own.workspace c.step.new.self own.running c.step.new.running own.mail c.take-mail.new.self own.depth
    own.turn own.turn own.done (Some c.step.result)
    c.step.ensures.workspace c.step.ensures.step.width kind
    ∙ ap post_of c.self.view_is
