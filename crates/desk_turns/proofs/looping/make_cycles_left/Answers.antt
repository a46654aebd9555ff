use Rattle.std.proofs.Common.{◌∙◌}
use Rattle.cm_desk.specs.Desk.{now_of}
use Rattle.desk_turns.specs.Jobs.{progress_of}
use Rattle.desk_turns.proofs.SettleLemmas.{one_cycle_more}
use Rattle.desk_turns.proofs.looping.make_cycles_left.Goals as goal

-- one cycle more
pub loop-past-preserved : goal.loop-past-preserved
loop-past-preserved g c = record {
  opening = c.in_ok-make_cycle.ensures.opening ∙ c.loop-past.invariant.opening;
  moved = one_cycle_more (now_of (g.J.Moves.facts c.args.job.now).desk).ended c.cycles_ended-first.result
      c.loop-past.past (progress_of (g.J.Moves.facts c.args.job.now)) _ _
      c.cycles_ended-first.ensures c.loop-past.invariant.moved c.in_ok-make_cycle.ensures.moved;
}
