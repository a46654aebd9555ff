use Rattle.std.proofs.Common.{sym, ◌∙◌}
use Rattle.hw_component.proofs.ClaimLemmas.{contested}
use Rattle.hw_component.proofs.claims.is_contested.Goals as goal

pub returns-in-Some : goal.returns-in-Some
returns-in-Some c =
    c.is_another_on.ensures
    ∙ sym (contested c.args.commands.now c.args.claims.now c.args.joint c.in-Some.first (sym c.in-Some.ensures))
