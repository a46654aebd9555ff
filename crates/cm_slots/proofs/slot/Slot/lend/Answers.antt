use Rattle.cm_slots.proofs.LifeLemmas.{kept_where_active}
use Rattle.cm_slots.proofs.slot.Slot.lend.Goals as goal

-- it runs, so it is kept as what runs
pub returns-clause-kept : goal.returns-clause-kept
returns-clause-kept g c =
    let a = c.self.inside in
    let asked = rw (← c.self.view_is) at c.requires in
    rw (← c.self.view_is) (kept_where_active a.life (g.C.Controller.meaning a.ctl.value) c.self.invariant.0 asked.0)
