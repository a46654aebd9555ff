use Rattle.std.proofs.lemmas.Result.{err_from_is_err_and}
use Rattle.desc_check.proofs.VerdictLemmas.{fault_of_verdict}
use Rattle.desc_check.proofs.verdict.check.Goals as goal

pub returns-in_err-no_fault : goal.returns-in_err-no_fault
returns-in_err-no_fault c =
    let p = err_from_is_err_and c.from_residual.result c.from_residual.ensures.1 in
    rw (p.1, p.2) (fault_of_verdict c.args.description c.in_err-no_fault.field-0.0 c.in_err-no_fault.ensures)
