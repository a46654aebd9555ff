use Rattle.std.proofs.Common.{Err, inr, sym, ap, ◌∙◌, ◌++◌}
use Rattle.cm_document.specs.Links.{commands_of}
use Rattle.desc_check.proofs.InterfaceLemmas.{all_among_missing}
use Rattle.desc_check.proofs.interfaces.claims_exist.Goals as goal

pub returns-in_ok-no_interface-in-Some : goal.returns-in_ok-no_interface-in-Some
returns-in_ok-no_interface-in-Some c =
    inr (all_among_missing (commands_of c.args.components.now ++ c.args.references.now) c.args.controller.now.name
    c.args.controller.now.claims c.in-Some.missing.now
    (rw (c.in-Some.is, c.as_slice.ensures) at c.missing_claim.ensures)
    ∙ ap (λ fault. Err fault) (sym c.in_ok-no_interface-in-Some.ensures))
