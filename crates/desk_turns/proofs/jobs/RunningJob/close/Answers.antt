use Rattle.std.proofs.Common.{rules, refl, sym, ◌∙◌}
use Rattle.cm_document.specs.declared.call.Call.TheVariants.{Close}
use Rattle.desk_turns.proofs.NumberLemmas.{sessions_over}
use Rattle.desk_turns.proofs.JobLemmas.{close_waits, loop_made, none_flies}
use Rattle.cm_desk.specs.Desk.{now_of}
use Rattle.cm_desk.proofs.BegunLemmas.{closed_alike, down_there}
use Rattle.desk_turns.proofs.jobs.RunningJob.close.Goals as goal

-- the loop closed
pub returns-then-can_close : goal.returns-then-can_close
returns-then-can_close g c = rw (← c.self.view_is) (loop_made Close _ _ _ c.close.ensures.made refl)

-- no cycle is aloft, before and after
pub invariant_of-self : goal.invariant_of-self
invariant_of-self g c =
    let can = rw (← c.self.view_is) at (sym c.can_close.ensures ∙ c.if-can_close.true) in
    let down = down_there (now_of c.self.inside.desk).aloft _ can in (
      sessions_over c.self.inside.desk _ _ (search rules) c.self.invariant.0,
      none_flies c.self.inside.desk c.close.new.self _ c.self.invariant.1 down
          (closed_alike c.self.inside.desk c.close.new.self _ _ c.close.ensures.made ∙ down),
    )

-- it cannot close
pub returns-else-can_close : goal.returns-else-can_close
returns-else-can_close g c = close_waits c.args.self.now (sym c.can_close.ensures ∙ c.if-can_close.false)
