use Rattle.std.proofs.Common.{◌≡◌, drop}
use Rattle.cm_model.specs.Scheduled.{turns}
use Rattle.desk_turns.specs.Jobs.{progress_of}
use Rattle.desk_turns.proofs.looping.make_turns.Given as goal

-- the turns from here on, from what is made, are all turns, over a desk of the same opening
abbrev pub invariant-loop-asked : goal.invariant-loop-asked
invariant-loop-asked g l = record {
  turned : turns (drop l.asked-index l.schedule) (progress_of (g.J.Moves.facts l.job))
      ≡ turns l.schedule (progress_of (g.J.Moves.facts l.fn.job));
  opening : (g.J.Moves.facts l.job).desk.opening ≡ (g.J.Moves.facts l.fn.job).desk.opening;
}
