use Rattle.std.proofs.Common.{◌≡◌, ◌∙◌, ap}
use Rattle.cm_document.specs.declared.description.Description.{Description}
use Rattle.cm_model.specs.Trace.{names_in}
use Rattle.trace_text.proofs.trace.write_trace.Goals as goal

-- the names are those of the history
pub returns-clause-ok : goal.returns-clause-ok
returns-clause-ok g c =
    let named : c.in_ok-names.names ≡ names_in c.args.checked.now c.args.history.now =
    c.in_ok-names.ensures ∙ ap (λ (d : Description). names_in d c.args.history.now) c.description.ensures.same in
    rw (c.as_slice.ensures, named) at c.write_lines.ensures.ok

pub returns-clause-err : goal.returns-clause-err
returns-clause-err g c =
    let named : c.in_ok-names.names ≡ names_in c.args.checked.now c.args.history.now =
    c.in_ok-names.ensures ∙ ap (λ (d : Description). names_in d c.args.history.now) c.description.ensures.same in
    rw (c.as_slice.ensures, named) at c.write_lines.ensures.err
