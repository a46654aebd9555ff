-- What an entry adds to the counts.
use Rattle.std.proofs.Common.{◌≡◌, ℕ, ◌+◌, ◌<◌, ◌≤◌, ◌^◌, List, [], ◌∷◌, length, Option, Some, None, refl, ◌∙◌, arith}
use Rattle.cm_storage.specs.Happened.{Happened}
use Rattle.cm_model.specs.declared.cause.Decision.{Decision}
use Rattle.cm_model.specs.declared.cause.Outcome.{Outcome}
use Rattle.cm_model.specs.declared.cause.Outcome.TheVariants as outcome
use Rattle.summary_text.specs.Counted.{Counted, with_outcome, with_decided, with_decisions, with_cycle}
use Rattle.summary_text.specs.Few.{AreFew, outcomes}

-- at most so many outcomes more, and nothing else counted
record AddsOutcomes (n : ℕ) (old new : Counted) : Type 0 where
  cycles : new.cycles ≡ old.cycles
  entries : new.entries ≡ old.entries
  updates : new.updates ≡ old.updates
  outcomes : outcomes new ≤ outcomes old + n

outcome_adds : (o : Outcome) (c : Counted) → AddsOutcomes 1 c (with_outcome o c)
outcome_adds (outcome.Done dropped) c = record { cycles = refl; entries = refl; updates = refl; outcomes = omega arith }
outcome_adds (outcome.Refused name cause) c =
    record { cycles = refl; entries = refl; updates = refl; outcomes = omega arith }
outcome_adds outcome.LoopEnded c = record { cycles = refl; entries = refl; updates = refl; outcomes = omega arith }

decided_adds : (ticket : Option ℕ) (o : Outcome) (c : Counted) → AddsOutcomes 1 c (with_decided ticket o c)
decided_adds (Some ticket) o c = outcome_adds o c
decided_adds None o c = record { cycles = refl; entries = refl; updates = refl; outcomes = omega arith }

decisions_add : (ds : List Decision) (c : Counted) → AddsOutcomes (length ds) c (with_decisions ds c)
decisions_add [] c = record { cycles = refl; entries = refl; updates = refl; outcomes = omega arith }
decisions_add (d ∷ ds) c =
    let one = decided_adds d.ticket d.outcome c in
    let more = decisions_add ds (with_decided d.ticket d.outcome c) in
    record {
      cycles = more.cycles ∙ one.cycles;
      entries = more.entries ∙ one.entries;
      updates = more.updates ∙ one.updates;
      outcomes = omega (arith, more.outcomes, one.outcomes);
    }

-- one entry more
abbrev pub one_more : Counted → Counted
one_more c = record c { entries = c.entries + 1 }

-- an entry that adds nothing else
pub few_other : (c : Counted) → AreFew c → AreFew (one_more c)
few_other c few =
    record {
      cycles = omega (arith, few.cycles);
      updates = omega (arith, few.updates);
      outcomes =
          omega (arith, few.outcomes);
    }

-- an entry with a record
pub few_cycle : (happened : Happened) (c : Counted) → AreFew c → length happened.ran < 2 ^ 64
    → AreFew (with_cycle happened (one_more c))
few_cycle happened c few fits =
    record {
      cycles = omega (arith, few.cycles);
      updates = omega (arith, few.updates, fits);
      outcomes =
          omega (arith, few.outcomes);
    }

-- an entry with decisions
pub few_decisions : (ds : List Decision) (c : Counted) → AreFew c → length ds < 2 ^ 64
    → AreFew (with_decisions ds (one_more c))
few_decisions ds c few fits =
    let adds = decisions_add ds (one_more c) in
    record {
      cycles = omega (arith, few.cycles, adds.cycles, adds.entries);
      updates = omega (arith, few.updates, adds.updates, adds.entries);
      outcomes = omega (arith, few.outcomes, adds.outcomes, adds.entries);
    }

-- the entries stay counted
pub entries_decisions : (ds : List Decision) (c : Counted) → (with_decisions ds (one_more c)).entries ≡ c.entries + 1
entries_decisions ds c = (decisions_add ds (one_more c)).entries

pub ruleset counting = (few_other, few_cycle)
