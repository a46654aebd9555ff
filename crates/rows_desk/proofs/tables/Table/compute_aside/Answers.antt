use denote.Exit as exit
use denote.Param.Send.{param_send, arg_send}
use Rattle.std.proofs.Common.{sym, ◌∙◌}
use Rattle.cm_desk.proofs.BegunLemmas.{computed_at_hand}
use Rattle.rows_desk.proofs.TableLemmas.{is_out, at_hand, held}
use Rattle.rows_desk.proofs.tables.Table.compute_aside.Goals as goal

-- the flight was out,
pub flown_aside-requires : goal.flown_aside-requires
flown_aside-requires g c =
    let at = held c.self.inside.desk c.self.inside.flight c.in-Some.flight c.self.invariant
    (sym c.take.ensures.value ∙ c.in-Some.is) in (
      c.type_bounds.static-C,
      (
        param_send 1 _ (arg_send _ exit.yes _ c.type_bounds.send-C),
        (is_out c.self.inside.desk c.in-Some.flight at (sym c.computed.ensures ∙ c.if-computed.false)).not_yet.0,
      ),
    )

-- and now it is computed
pub invariant_of-self-2 : goal.invariant_of-self-2
invariant_of-self-2 g c =
    let at = held c.self.inside.desk c.self.inside.flight c.in-Some.flight c.self.invariant
    (sym c.take.ensures.value ∙ c.in-Some.is) in
    let out = is_out c.self.inside.desk c.in-Some.flight at (sym c.computed.ensures ∙ c.if-computed.false) in
    at_hand c.self.inside.desk c.replace-2.new.self c.flown_aside.result c.replace-2.ensures.after
    (computed_at_hand c.self.inside.desk c.in-Some.flight c.flown_aside.result out c.flown_aside.ensures.cycle
    c.flown_aside.ensures.computed)
