use Rattle.std.proofs.Common.{rules}
use Rattle.std.specs.Prelude.{codes}
use Rattle.std.proofs.lemmas.Result.{err_from_is_err_and}
use Rattle.cm_document.specs.Valid.{each_ranged, controller_ranged}
use Rattle.desc_check.proofs.RangeLemmas.{fault_of_item}
use Rattle.desc_check.proofs.ranges.controllers_ranged.Goals as goal

pub returns-in_err-controller_ranged : goal.returns-in_err-controller_ranged
returns-in_err-controller_ranged c =
    let given = c.from_residual-in_err-controller_ranged in
    let p = err_from_is_err_and given.result given.ensures.1 in
    rw (p.1, p.2)
    (fault_of_item controller_ranged (codes "controller") c.loop-index.index c.args.controllers.now
    c.index-controllers-index.result c.as_str.result.now
    c.in_err-controller_ranged.field-0.0 (each_ranged controller_ranged (codes "controller") 0 c.args.controllers.now)
    (search rules) (search rules) (search rules) c.loop-index.invariant
    c.in_err-controller_ranged.ensures)
