use Rattle.std.proofs.Common.{ap, ◌∙◌}
use Rattle.desk_turns.specs.Jobs.{JobFacts, progress_of}
use Rattle.desk_turns.proofs.SettleLemmas.{turns_next}
use Rattle.desk_turns.proofs.looping.make_turns.Goals as goal

-- this turn, and then those after it
pub loop-asked-preserved : goal.loop-asked-preserved
loop-asked-preserved g c = record {
  turned = turns_next c.args.schedule.now c.loop-asked.asked-index _ _ _ c.loop-asked-test.true
      (ap progress_of c.do_between.ensures ∙ c.in_ok-make_turn.ensures.moved) ∙ c.loop-asked.invariant.turned;
  opening = ap (λ (j : JobFacts). j.desk.opening) c.do_between.ensures ∙ c.in_ok-make_turn.ensures.opening
      ∙ c.loop-asked.invariant.opening;
}
