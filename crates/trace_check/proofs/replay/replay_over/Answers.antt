use Rattle.std.proofs.Common.{◌≡◌, length, ap, ap₂, sym, ◌∙◌}
use Rattle.cm_document.specs.declared.document.Document.{Document}
use Rattle.cm_model.specs.Scheduled.{start}
use Rattle.cm_model.specs.State.{boot}
use Rattle.desk_turns.proofs.RulesLemmas.{rules_lines}
use Rattle.trace_check.proofs.LineStepLemmas.{stands_first}
use Rattle.trace_check.proofs.replay.replay_over.Goals as goal

pub start-requires-clause-lines : goal.start-requires-clause-lines
start-requires-clause-lines g c = rules_lines c.args.script.now c.requires.rules

pub replay_lines-requires-clause-first : goal.replay_lines-requires-clause-first
replay_lines-requires-clause-first g c =
    let document : Document = record { description = c.args.checked.now; script = c.args.script.now } in
    let job = c.in_ok-job.job in
    let stock_is : c.args.stock ≡ job.desk.opening.blanks = sym (ap (λ s. s.blanks) c.in_ok-job.ensures.opening) in
    stands_first document job.desk.opening.blanks job
    (c.in_ok-job.ensures.opening
    ∙ ap₂ (λ d b. boot d b (length c.args.script.now.sessions)) c.in_ok-copy.ensures stock_is)
    (c.in_ok-job.ensures.started
    ∙ ap₂ (λ d b. start (record { description = d; script = c.args.script.now }) b) c.in_ok-copy.ensures stock_is)
