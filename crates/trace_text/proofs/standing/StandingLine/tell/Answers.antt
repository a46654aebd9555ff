use Rattle.std.proofs.Common.{◌≡◌, ap, arith, ◌∙◌}
use Rattle.trace_text.specs.Standing.{StandingFacts, standing_text}
use Rattle.trace_text.proofs.StandingLemmas.{renumbered, two_before}
use Rattle.trace_text.proofs.standing.StandingLine.tell.Goals as goal

-- the number of the cycle before has two digits at least
pub put_digits-requires : goal.put_digits-requires
put_digits-requires c =
    two_before c.self.inside.told c.self.inside.names.now c.self.inside.bodies.items c.self.inside.head c.args.cycle
    c.in-Some.pair c.self.inside.text (omega arith)
    c.self.invariant c.in-Some.ensures

-- with two other digits it is the line of this cycle
pub invariant_of-self : goal.invariant_of-self
invariant_of-self c =
    rw c.put_digits.ensures
    (renumbered c.self.inside.told c.self.inside.names.now c.self.inside.bodies.items c.self.inside.head c.args.cycle
    c.in-Some.pair c.self.inside.text (omega arith)
    c.self.invariant c.in-Some.ensures)

pub returns-in-Some-clause-told : goal.returns-in-Some-clause-told
returns-in-Some-clause-told c =
    let stands =
    renumbered c.self.inside.told c.self.inside.names.now c.self.inside.bodies.items c.self.inside.head c.args.cycle
    c.in-Some.pair c.self.inside.text (omega arith)
    c.self.invariant c.in-Some.ensures in
    let bodies : c.self.inside.bodies.items ≡ c.args.bodies.now = cc (c.are_same.ensures.same c.if-are_same.true) in
    c.put_digits.ensures ∙ stands.text ∙ ap (standing_text c.self.inside.names.now c.args.cycle) bodies
    ∙ ap (λ (line : StandingFacts). standing_text line.names c.args.cycle c.args.bodies.now) c.self.view_is
