use Rattle.std.proofs.Common.{◌≡◌, false, subst}
use Rattle.cm_document.specs.declared.description.Description.{Description}
use Rattle.rows_desk.proofs.SessionLemmas.{loop_at_boot}
use Rattle.rows_desk.proofs.shared.starts.share_at_boot.Goals as goal

-- the loop has not begun yet
pub returns-clause-looping : goal.returns-clause-looping
returns-clause-looping g c =
    loop_at_boot _ _ c.args.checked c.args.stock c.args.sessions _ _ _ c.in_ok-desk.ensures
    c.in_ok-desk-2.ensures.shared _ _ _ c.before_the_first.ensures.pass
    (subst (λ (x : Description). c.before_the_first.result.stand
    ≡ record { left = x.cycles; aloft = false; closed = false }) c.description.ensures.same
    c.before_the_first.ensures.stand)
    c.before_the_first.ensures.flight
