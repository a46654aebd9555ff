use Rattle.std.proofs.Common.{sym, ◌∙◌}
use Rattle.cm_desk.proofs.BegunLemmas.{computed_at_hand}
use Rattle.rows_desk.proofs.TableLemmas.{is_out, at_hand, held}
use Rattle.rows_desk.proofs.tables.Table.compute.Goals as goal

-- the flight was out,
pub flown-requires : goal.flown-requires
flown-requires g c =
    let at = held c.self.inside.desk c.self.inside.flight c.in-Some.flight c.self.invariant
    (sym c.take.ensures.value ∙ c.in-Some.is) in
    (is_out c.self.inside.desk c.in-Some.flight at (sym c.computed.ensures ∙ c.if-computed.false)).not_yet.0

-- and now it is computed
pub invariant_of-self-2 : goal.invariant_of-self-2
invariant_of-self-2 g c =
    let at = held c.self.inside.desk c.self.inside.flight c.in-Some.flight c.self.invariant
    (sym c.take.ensures.value ∙ c.in-Some.is) in
    let out = is_out c.self.inside.desk c.in-Some.flight at (sym c.computed.ensures ∙ c.if-computed.false) in
    at_hand c.self.inside.desk c.replace-2.new.self c.flown.result c.replace-2.ensures.after
    (computed_at_hand c.self.inside.desk c.in-Some.flight c.flown.result out c.flown.ensures.cycle
    c.flown.ensures.computed)
