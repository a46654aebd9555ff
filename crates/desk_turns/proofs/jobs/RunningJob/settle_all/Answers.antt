use Rattle.std.proofs.Common.{◌≡◌, length, arith}
use Rattle.std.proofs.lemmas.Grind.{common_steps}
use Rattle.std.proofs.lemmas.List.{take_at}
use Rattle.desk_turns.proofs.JobLemmas.{flight_alike}
use Rattle.desk_turns.proofs.jobs.RunningJob.settle_all.Goals as goal

-- its sessions are those of the desk, and a cycle that is aloft stays so
pub invariant_of-self : goal.invariant_of-self
invariant_of-self g c =
    let long : length c.settle_each.new.sessions ≡ c.self.inside.sessions.len =
    grind (arith, common_steps, c.settle_each.auto.sessions, c.deref_mut.ensures.value, c.deref_mut.ensures.len) in (
      rw (take_at c.settle_each.new.sessions _ _ long) c.settle_each.ensures.numbered,
      flight_alike _ _ _ c.settle_each.ensures.desk.aloft c.self.invariant.1,
    )
