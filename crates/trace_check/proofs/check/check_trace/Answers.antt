use Rattle.std.proofs.Common.{◌≡◌, length, ap, ◌∙◌}
use Rattle.cm_document.specs.Lines.{raw_lines}
use Rattle.cm_document.specs.declared.document.Document.{Document}
use Rattle.trace_laws.specs.Stocks.{at_most}
use Rattle.trace_check.proofs.CheckLemmas.{told_judges, over_all}
use Rattle.trace_check.proofs.check.check_trace.Goals as goal

pub returns-clause-tells : goal.returns-clause-tells
returns-clause-tells c =
    let document : Document = record { description = c.args.checked.now; script = c.args.script.now } in
    let blanks = c.args.blanks.now in
    let text = c.args.text.now in
    let counted : c.make.result ≡ at_most (length (raw_lines text)) blanks =
    c.make.ensures ∙ c.in_ok-boxes.ensures.counted ∙ c.at_most-counts.ensures
    ∙ ap (λ n. at_most n blanks) c.lines_in.ensures in
    over_all document blanks c.make.result text c.check_over.result c.requires.rules counted c.check_over.ensures

pub returns-clause-judges : goal.returns-clause-judges
returns-clause-judges c =
    let document : Document = record { description = c.args.checked.now; script = c.args.script.now } in
    told_judges document c.args.blanks.now c.args.text.now c.check_over.result c.description.ensures.valid
    c.requires.rules
    (returns-clause-tells c)
