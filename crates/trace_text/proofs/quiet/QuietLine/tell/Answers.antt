use Rattle.std.proofs.Common.{◌∙◌}
use Rattle.trace_text.specs.Quiet.{quiet_text}
use Rattle.trace_text.proofs.QuietLemmas.{renewed}
use Rattle.trace_text.proofs.quiet.QuietLine.tell.Goals as goal

-- with two other digits it is the line of this call
pub invariant_of-self : goal.invariant_of-self
invariant_of-self c =
    c.put_digits.ensures
    ∙ renewed c.self.inside.told c.self.inside.text (quiet_text c.args.call) c.in-Some.pair c.self.invariant
    c.in-Some.ensures

pub returns-in-Some : goal.returns-in-Some
returns-in-Some c =
    c.put_digits.ensures
    ∙ renewed c.self.inside.told c.self.inside.text (quiet_text c.args.call) c.in-Some.pair c.self.invariant
    c.in-Some.ensures
