use Rattle.std.proofs.Common.{◌∙◌, ap}
use Rattle.cm_document.specs.declared.description.CtlDesc.{CtlDesc}
use Rattle.switch_plan.proofs.faults.fault_of_kind.Goals as goal

pub returns-in-Follower : goal.returns-in-Follower
returns-in-Follower c =
    let claims = c.as_slice-claims.ensures ∙ ap (λ (d : CtlDesc). d.claims) c.described-controller.ensures in
    rw c.in-Follower.is (rw claims at c.missing_follower.ensures)

pub returns-in-Availability : goal.returns-in-Availability
returns-in-Availability c =
    let claims = c.as_slice-claims.ensures ∙ ap (λ (d : CtlDesc). d.claims) c.described-controller.ensures in
    let reads = c.reads.ensures ∙ ap (λ (d : CtlDesc). d.reads) c.described-controller.ensures in
    rw c.in-Availability.is (rw (claims, reads) at c.unavailable.ensures)

pub returns-in-Mode : goal.returns-in-Mode
returns-in-Mode c =
    let claims = c.as_slice-claims.ensures ∙ ap (λ (d : CtlDesc). d.claims) c.described-controller.ensures in
    rw c.in-Mode.is (rw claims at c.mode_refused.ensures)
