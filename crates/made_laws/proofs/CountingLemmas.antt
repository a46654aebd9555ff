-- What each entry of a made run adds to the counts.
use Rattle.std.proofs.Common.{◌≡◌, ℕ, zero, suc, ◌+◌, List, [], ◌∷◌, ◌++◌, length, Some, refl, ap, ◌∙◌, arith}
use Rattle.cm_document.specs.declared.call.Call.{Call}
use Rattle.cm_storage.specs.Happened.{Happened}
use Rattle.cm_model.specs.Scheduled.{with_entry}
use Rattle.cm_model.specs.declared.cause.Outcome.TheVariants as outcome
use Rattle.cm_model.specs.declared.entry.Entry.{Entry}
use Rattle.cm_model.specs.declared.reply.Reply.{Reply}
use Rattle.cm_model.specs.declared.reply.Reply.TheVariants as reply
use Rattle.summary_text.specs.Counted.{Counted, nothing, with_reply, with_entries, counted}
use Rattle.summary_text.specs.Counted as count

-- so many more than a number: a sum that computes whatever the number is
abbrev pub plus : ℕ → ℕ → ℕ
plus zero n = n
plus (suc k) n = suc (plus k n)

pub plus_is : (k n : ℕ) → plus k n ≡ k + n
plus_is zero n = omega arith
plus_is (suc k) n = let rest = plus_is k n in omega (arith, rest)

plus_behind : (k n : ℕ) → n + k ≡ plus k n
plus_behind k n = let is = plus_is k n in omega (arith, is)

-- so much is counted of a history, of which no request was refused or ended with the loop
pub record Counts (made : List Entry) (cycles entries updates done : ℕ) : Type 0 where
  pub of_cycles : (counted made).cycles ≡ cycles
  pub of_entries : (counted made).entries ≡ entries
  pub of_updates : (counted made).updates ≡ updates
  pub of_done : (counted made).done ≡ done
  pub none_refused : (counted made).refused ≡ 0
  pub none_ended : (counted made).ended ≡ 0

-- a reply adds so much
pub record Adds (r : Reply) (cycles updates done : ℕ) : Type 0 where
  pub cycles_more : (c : Counted) → (with_reply r c).cycles ≡ plus cycles c.cycles
  pub entries_same : (c : Counted) → (with_reply r c).entries ≡ c.entries
  pub updates_more : (c : Counted) → (with_reply r c).updates ≡ plus updates c.updates
  pub done_more : (c : Counted) → (with_reply r c).done ≡ plus done c.done
  pub refused_same : (c : Counted) → (with_reply r c).refused ≡ c.refused
  pub ended_same : (c : Counted) → (with_reply r c).ended ≡ c.ended

one_behind : (made : List Entry) (e : Entry) (c : Counted)
    → with_entries (made ++ e ∷ []) c ≡ count.with_entry e (with_entries made c)
one_behind [] e c = refl
one_behind (first ∷ made) e c = one_behind made e (count.with_entry first c)

one_over : (n : ℕ) → n + 1 ≡ suc n
one_over n = omega arith

-- an entry more
pub entry_counts : (made : List Entry) (who : ℕ) (call : Call) (r : Reply) (cycles entries updates done c u d : ℕ)
    → Adds r c u d
    → Counts made cycles entries updates done
    → Counts (with_entry made who call r) (plus c cycles) (suc entries) (plus u updates) (plus d done)
entry_counts made who call r cycles entries updates done c u d adds so_far =
    let next = one_behind made (record { who = who; call = call; reply = r }) nothing in
    let before : Counted = record (counted made) { entries = (counted made).entries + 1 } in
    record {
      of_cycles = ap (λ (c : Counted). c.cycles) next ∙ adds.cycles_more before ∙ ap (plus c) so_far.of_cycles;
      of_entries =
          ap (λ (c : Counted). c.entries) next ∙ adds.entries_same before ∙ one_over (counted made).entries
          ∙ ap suc so_far.of_entries;
      of_updates = ap (λ (c : Counted). c.updates) next ∙ adds.updates_more before ∙ ap (plus u) so_far.of_updates;
      of_done = ap (λ (c : Counted). c.done) next ∙ adds.done_more before ∙ ap (plus d) so_far.of_done;
      none_refused = ap (λ (c : Counted). c.refused) next ∙ adds.refused_same before ∙ so_far.none_refused;
      none_ended = ap (λ (c : Counted). c.ended) next ∙ adds.ended_same before ∙ so_far.none_ended;
    }

-- ---- What the replies of a made run add

pub serial_adds : (serial : ℕ) → Adds (reply.Serial serial) 0 0 0
serial_adds serial =
    record {
      cycles_more = λ c. refl;
      entries_same = λ c. refl;
      updates_more = λ c. refl;
      done_more =
          λ c. refl;
      refused_same = λ c. refl;
      ended_same = λ c. refl;
    }

pub done_adds : Adds reply.Done 0 0 0
done_adds = record {
  cycles_more = λ c. refl;
  entries_same = λ c. refl;
  updates_more = λ c. refl;
  done_more = λ c. refl;
  refused_same =
      λ c. refl;
  ended_same = λ c. refl;
}

pub queued_adds : (ticket : ℕ) → Adds (reply.Queued ticket) 0 0 0
queued_adds ticket =
    record {
      cycles_more = λ c. refl;
      entries_same = λ c. refl;
      updates_more = λ c. refl;
      done_more =
          λ c. refl;
      refused_same = λ c. refl;
      ended_same = λ c. refl;
    }

pub told_adds : Adds (reply.Outcome (outcome.Done [])) 0 0 0
told_adds = record {
  cycles_more = λ c. refl;
  entries_same = λ c. refl;
  updates_more = λ c. refl;
  done_more = λ c. refl;
  refused_same =
      λ c. refl;
  ended_same = λ c. refl;
}

-- no decision, and that of one request that is carried out
pub nothing_adds : Adds (reply.Decisions []) 0 0 0
nothing_adds =
    record {
      cycles_more = λ c. refl;
      entries_same = λ c. refl;
      updates_more = λ c. refl;
      done_more =
          λ c. refl;
      refused_same = λ c. refl;
      ended_same = λ c. refl;
    }

pub one_adds : (ticket : ℕ)
    → Adds (reply.Decisions (record { ticket = Some ticket; outcome = outcome.Done [] } ∷ [])) 0 0 1
one_adds ticket =
    record {
      cycles_more = λ c. refl;
      entries_same = λ c. refl;
      updates_more = λ c. refl;
      done_more =
          λ c. one_over c.done;
      refused_same = λ c. refl;
      ended_same = λ c. refl;
    }

-- a cycle of so many updates
pub cycle_adds : (happened : Happened) (updated : ℕ) → length happened.ran ≡ updated
    → Adds (reply.Cycle happened) 1 updated 0
cycle_adds happened updated is =
    record {
      cycles_more = λ c. one_over c.cycles;
      entries_same = λ c. refl;
      updates_more =
          λ c. ap (λ n. c.updates + n) is ∙ plus_behind updated c.updates;
      done_more = λ c. refl;
      refused_same = λ c. refl;
      ended_same = λ c. refl;
    }
