use Rattle.std.proofs.Common.{◌≡◌, arith}
use Rattle.sequence.specs.Last.{in_last}
use Rattle.cm_document.specs.ScriptRules.{then_calling}
use Rattle.script_text.proofs.RuleLemmas.{calling_counts}
use Rattle.script_text.proofs.rules.Draft.with_call.Goals as goal

pub invariant_of-result : goal.invariant_of-result
invariant_of-result c =
    let more : in_last (then_calling c.args.call) c.self.inside.sessions ≡ c.in_ok-calling_last.field-0 = grind arith in
    let counts =
    calling_counts c.args.call c.self.inside.sessions c.in_ok-calling_last.field-0 c.self.inside.turns
    c.self.inside.count more (grind arith) (grind arith) in
    grind (arith, counts)
