use Rattle.std.proofs.Common.{sym, ◌∙◌}
use Rattle.cm_desk.proofs.BegunLemmas.{computed_at_hand}
use Rattle.desk_turns.proofs.JobLemmas.{started_computed}
use Rattle.desk_turns.proofs.jobs.compute_once.Goals as goal

-- it was not started before
pub compute-requires : goal.compute-requires
compute-requires g c = (c.started.ensures.fresh c.if-not-started.true).0

-- and is computed now,
pub returns-then-not-started : goal.returns-then-not-started
returns-then-not-started g c =
    let may = c.started.ensures.fresh c.if-not-started.true in
    record {
      at_hand = λ h hand. computed_at_hand h c.args.flight.now c.compute.new.self (hand.before may.1)
          c.compute.ensures.cycle c.compute.ensures.computed;
      computed = λ h hand. c.compute.ensures.computed;
    }

-- or it was computed before
pub returns-else-not-started : goal.returns-else-not-started
returns-else-not-started g c = record {
  at_hand = λ h hand. hand;
  computed = λ h hand. started_computed h c.args.flight.now hand
      (sym c.started.ensures.started ∙ c.if-not-started.false);
}
