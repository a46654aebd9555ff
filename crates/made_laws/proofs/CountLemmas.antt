-- What is counted of the run of so many rounds.
use Rattle.std.proofs.Common.{◌≡◌, ℕ, zero, suc, ◌+◌, ◌*◌, ◌%◌, ◌≤◌, List, [], ◌∷◌, ◌++◌, length, drop}
use Rattle.std.proofs.Common.{map, None, refl, sym, ap, ◌∙◌, subst, arith, append_assoc, append-nil}
use Rattle.cm_document.specs.declared.call.Call.{Call}
use Rattle.cm_document.specs.declared.call.Call.TheVariants as call
use Rattle.cm_model.proofs.AdvanceLemmas.{settle-stays}
use Rattle.cm_model.specs.Boundary.{decisions_from, decisions_between, close_effect, close_reply}
use Rattle.cm_model.specs.Scheduled.{Progress, with_entry, advance, settle_all, looped, finish, start, scheduled}
use Rattle.cm_model.specs.Scheduled as run
use Rattle.cm_model.specs.State.{State, Loaded}
use Rattle.cm_model.specs.declared.cause.Decision.{Decision}
use Rattle.cm_model.specs.declared.cause.Outcome.{Outcome}
use Rattle.cm_model.specs.declared.cause.Outcome.TheVariants as outcome
use Rattle.cm_model.specs.declared.entry.Entry.{Entry}
use Rattle.cm_model.specs.declared.reply.Reply.TheVariants as reply
use Rattle.cm_model.specs.declared.request.Request.{Request}
use Rattle.summary_text.specs.Counted.{counted}
use Rattle.make_document.specs.Made.{sent_to, restarted}
use Rattle.make_document.specs.Meant.{strictly, opening_calls, value_sent, round_calls, rounds_calls}
use Rattle.make_document.specs.Made.{controller_name}
use Rattle.made_laws.specs.Runs.{run_of, AreCounts}
use Rattle.made_laws.proofs.AskedLemmas.{left_behind, none_waits}
use Rattle.made_laws.proofs.CountingLemmas.{plus, plus_is, Counts, entry_counts, nothing_adds}
use Rattle.made_laws.proofs.DueLemmas.{step_when, looped_on}
use Rattle.made_laws.proofs.FlightLemmas.{stage, settled_to}
use Rattle.made_laws.proofs.OpeningLemmas.{at_boot, opening_stage}
use Rattle.made_laws.proofs.RoundLemmas.{RoundOf, round_of}
use Rattle.made_laws.proofs.SessionLemmas.{ready, point, settles_here, settles_awaited}
use Rattle.made_laws.proofs.StageLemmas.{Awaits, IsToBeTold, idle_stage, stop_stage}
use Rattle.made_laws.proofs.StageLemmas.{first_stop_stage, start_stage, told_stage}
use Rattle.made_laws.proofs.Standing.{running, but_stopped, eight, between}

-- ---- The calls of rounds

-- those of so many rounds behind the first ones
abbrev later_rounds : ℕ → ℕ → List Call
later_rounds past zero = []
later_rounds past (suc rounds) = round_calls (past + 1) ++ later_rounds (suc past) rounds

rounds_are : (rounds past : ℕ) → rounds_calls past ++ later_rounds past rounds ≡ rounds_calls (rounds + past)
rounds_are zero past = let here : past ≡ 0 + past = omega arith in append-nil (rounds_calls past) ∙ ap rounds_calls here
rounds_are (suc rounds) past =
    let next : rounds + suc past ≡ suc rounds + past = omega arith in
    sym (append_assoc (rounds_calls past) (round_calls (past + 1)) (later_rounds (suc past) rounds))
    ∙ rounds_are rounds (suc past) ∙ ap rounds_calls next

-- ---- A round

-- the same counts by other sums
recount : (cycles n count : ℕ) (lines : List Call) (e e₁ u u₁ d : ℕ) (p : Progress) → e ≡ e₁ → u ≡ u₁
    → Awaits cycles n count lines e u d p → Awaits cycles n count lines e₁ u₁ d p
recount cycles n count lines e e₁ u u₁ d p same_e same_u w =
    subst (λ k. Awaits cycles n count lines e₁ k d p) same_u (subst (λ k. Awaits cycles n count lines k u d p) same_e w)

module _ (cycles : ℕ) (p : Progress) where
  idle_many : (j n count m : ℕ) (lines : List Call) (e u d : ℕ) → j + n ≤ m → m ≤ cycles
      → Awaits cycles n count (call.Await m ∷ lines) e u d (run.cycles n p)
      → Awaits cycles (j + n) count (call.Await m ∷ lines) (j + j + e) (8 * j + u) d (run.cycles (j + n) p)
  idle_many zero n count m lines e u d within most w =
      let here : n ≡ 0 + n = omega arith in
      subst (λ k. Awaits cycles k count (call.Await m ∷ lines) (0 + 0 + e) (8 * 0 + u) d (run.cycles k p)) here
      (recount cycles n count (call.Await m ∷ lines) e (0 + 0 + e) u (8 * 0 + u) d (run.cycles n p) (omega arith)
      (omega arith) w)
  idle_many (suc j) n count m lines e u d within most w =
      let before = idle_many j n count m lines e u d (omega (arith, within)) most w in
      let next : suc (j + n) ≡ suc j + n = omega arith in
      let eight_more : plus 8 (8 * j + u) ≡ 8 * suc j + u =
      plus_is 8 (8 * j + u) ∙ (let same : 8 + (8 * j + u) ≡ 8 * suc j + u = omega arith in same) in
      subst (λ k. Awaits cycles k count (call.Await m ∷ lines) (suc j + suc j + e) (8 * suc j + u) d (run.cycles k p))
      next
      (recount cycles (suc (j + n)) count (call.Await m ∷ lines) (suc (suc (j + j + e))) (suc j + suc j + e)
      (plus 8 (8 * j + u)) (8 * suc j + u) d (run.cycles (suc (j + n)) p) (omega arith) eight_more
      (idle_stage cycles (j + n) count m lines (j + j + e) (8 * j + u) d (run.cycles (j + n) p) (omega (arith, within))
      (omega (arith, within, most)) before))

  -- from the second cycle of a round to its last
  round_tail : (a b : ℕ) (round : RoundOf a b) (j n count m : ℕ) (lines : List Call) (e u d : ℕ) → suc (suc (j + n)) ≡ m
      → m ≤ cycles
      → IsToBeTold cycles n count (λ held. but_stopped b (running held))
      (call.Switch (strictly [] (controller_name b ∷ [])) ∷ call.Await m ∷ lines) e u d (run.cycles n p)
      → Awaits cycles m (count + 1 + 1) (call.Await m ∷ lines) (7 + (j + j) + e) (16 + 8 * j + u) (suc d)
      (run.cycles m p)
  round_tail a b round j n count m lines e u d is most w =
      let started =
      start_stage a b cycles round (value_sent 0) n count (call.Await m ∷ lines) e u d (run.cycles n p)
      (omega (arith, is, most)) w in
      let told = told_stage cycles (suc n) (count + 1) m lines (plus 4 e) (plus 8 u) (suc d) (run.cycles (suc n) p)
      (omega (arith, is)) (omega (arith, is, most)) started in
      let rest = idle_many j (suc (suc n)) (count + 1 + 1) m lines (plus 7 e) (plus 16 u) (suc d) (omega (arith, is))
      most told in
      let seven_more : j + j + plus 7 e ≡ 7 + (j + j) + e =
      ap (λ k. j + j + k) (plus_is 7 e) ∙ (let same : j + j + (7 + e) ≡ 7 + (j + j) + e = omega arith in same) in
      let sixteen_more : 8 * j + plus 16 u ≡ 16 + 8 * j + u =
      ap (λ k. 8 * j + k) (plus_is 16 u) ∙ (let same : 8 * j + (16 + u) ≡ 16 + 8 * j + u = omega arith in same) in
      let last : j + suc (suc n) ≡ m = omega (arith, is) in
      recount cycles m (count + 1 + 1) (call.Await m ∷ lines) (j + j + plus 7 e) (7 + (j + j) + e) (8 * j + plus 16 u)
      (16 + 8 * j + u) (suc d) (run.cycles m p) seven_more sixteen_more
      (subst (λ k. Awaits cycles k (count + 1 + 1) (call.Await m ∷ lines) (j + j + plus 7 e) (8 * j + plus 16 u) (suc d)
      (run.cycles k p)) last rest)

-- After so many rounds the session awaits their cycles, and so much is counted.
record IsAfter (cycles : ℕ) (p : Progress) (rounds : ℕ) (lines : List Call) : Type 0 where
  index : ℕ
  count : ℕ
  entries : ℕ
  updates : ℕ
  done : ℕ
  awaits : Awaits cycles index count (call.Await index ∷ lines) entries updates done (run.cycles index p)
  is_index : index ≡ 10 * rounds
  is_entries : entries ≡ 17 + 26 * rounds
  is_updates : updates ≡ 79 * rounds
  is_done : done ≡ 1 + 2 * rounds

-- the controllers of a round are one and the next
round_at : (k : ℕ) → RoundOf (sent_to k) (restarted k)
round_at k =
    let next : (k % 8 + 1) % 8 ≡ (k + 1) % 8 = omega arith in
    subst (RoundOf (k % 8)) next (round_of (k % 8) (omega arith))

-- the first round
first_round : (cycles : ℕ) (lines : List Call) → 10 ≤ cycles
    → IsAfter cycles (stage (at_boot cycles) [] (ready (opening_calls ++ (round_calls 1 ++ lines)))) 1 lines
first_round cycles lines most =
    let p : Progress = stage (at_boot cycles) [] (ready (opening_calls ++ (round_calls 1 ++ lines))) in
    let opened = opening_stage cycles (round_calls 1 ++ lines) (omega (arith, most)) in
    let stopped =
    first_stop_stage 1 2 cycles (round_at 1) (value_sent 1) 1 0
    (call.Switch (strictly [] (controller_name 2 ∷ [])) ∷ call.Await 10 ∷ lines) 19 8 1 (run.cycles 1 p)
    (omega (arith, most)) opened in
    record {
      index = 10;
      count = 3;
      entries = 43;
      updates = 79;
      done = 3;
      awaits = round_tail cycles p 1 2 (round_at 1) 6 2 1 10 lines 24 15 2 refl most stopped;
      is_index = refl;
      is_entries = refl;
      is_updates = refl;
      is_done = refl;
    }

-- each further one
next_round : (cycles : ℕ) (p : Progress) (k : ℕ) (lines : List Call) → 10 * suc k ≤ cycles
    → IsAfter cycles p k (round_calls (k + 1) ++ lines) → IsAfter cycles p (suc k) lines
next_round cycles p k lines most w =
    let m : ℕ = 10 * (k + 1) in
    let five_more = plus_is 5 w.entries in
    let seven_more = plus_is 7 w.updates in
    let at : suc (suc (7 + suc w.index)) ≡ m = omega (arith, w.is_index) in
    let stopped =
    stop_stage (sent_to (k + 1)) (restarted (k + 1)) cycles (round_at (k + 1)) (value_sent (k + 1)) w.index w.count
    (call.Switch (strictly [] (controller_name (restarted (k + 1)) ∷ [])) ∷ call.Await m ∷ lines) w.entries w.updates
    w.done (run.cycles w.index p) (omega (arith, w.is_index, most)) w.awaits in
    record {
      index = m;
      count = w.count + 1 + 1;
      entries = 7 + (7 + 7) + plus 5 w.entries;
      updates = 16 + 8 * 7 + plus 7 w.updates;
      done = suc (suc w.done);
      awaits = round_tail cycles p (sent_to (k + 1)) (restarted (k + 1)) (round_at (k + 1)) 7 (suc w.index) w.count m
          lines (plus 5 w.entries) (plus 7 w.updates) (suc w.done) at (omega (arith, most)) stopped;
      is_index = omega arith;
      is_entries = omega (arith, w.is_entries, five_more);
      is_updates = omega (arith, w.is_updates, seven_more);
      is_done = omega (arith, w.is_done);
    }

all_rounds : (cycles : ℕ) (p : Progress) (j k : ℕ) → 10 * (j + k) ≤ cycles → IsAfter cycles p k (later_rounds k j)
    → IsAfter cycles p (j + k) []
all_rounds cycles p zero k most w = let here : k ≡ 0 + k = omega arith in subst (λ n. IsAfter cycles p n []) here w
all_rounds cycles p (suc j) k most w =
    let same : j + suc k ≡ suc j + k = omega arith in
    subst (λ n. IsAfter cycles p n []) same
    (all_rounds cycles p j (suc k) (omega (arith, most))
    (next_round cycles p k (later_rounds (suc k) j) (omega (arith, most)) w))

-- ---- The close

no_call : (s : State) (made : List Entry) → advance 0 (point s made (ready [])) ≡ None
unfolding advance
no_call s made = refl

-- the session's last await, and the close
finish_counts : (cycles n count e u d : ℕ) (p : Progress) → Awaits cycles n count (call.Await n ∷ []) e u d p
    → Counts (finish p).made n (suc (suc e)) u d
unfolding finish
finish_counts cycles n count e u d p w =
    let st = w.stands in
    let all : List Loaded = eight (running w.held) in
    let s : State = between cycles all st.held w.asked n in
    let told : List Outcome = w.asked.outcomes in
    let awaited =
    settles_awaited cycles n all st.held w.asked count w.are st.made [] s (ready []) e u d (suc e) st.counts
    (λ made counts. settles_here cycles n s made (ready []) (suc e) u d (no_call s made) counts) in
    let settled : settle_all p ≡ stage s awaited.made (ready []) =
    ap settle_all st.is
    ∙ settled_to s st.made (ready (call.Await n ∷ [])) (point s awaited.made (ready [])) awaited.is in
    let nobody : decisions_between s (close_effect s) ≡ [] =
    ap (λ (ws : List Request). decisions_from (length told)
    (drop (length told) (told ++ map (λ (asked : Request). outcome.LoopEnded) ws)))
    (none_waits cycles all st.held w.asked n count w.are)
    ∙ ap (decisions_from (length told)) (left_behind told [] (length told) refl) in
    let made : List Entry = with_entry awaited.made 1 call.Close (reply.Decisions []) in
    let closed : looped call.Close (stage s awaited.made (ready [])) ≡ stage (close_effect s) made (ready []) =
    looped_on call.Close (stage s awaited.made (ready [])) (close_effect s) (close_reply s)
    (step_when s 1 call.Close refl)
    ∙ ap (λ (ds : List Decision). stage (close_effect s) (with_entry awaited.made 1 call.Close (reply.Decisions ds))
    (ready [])) nobody in
    let still : settle_all (stage (close_effect s) made (ready [])) ≡ stage (close_effect s) made (ready []) =
    settled_to (close_effect s) made (ready []) (point (close_effect s) made (ready []))
    (settle-stays 0 (point (close_effect s) made (ready [])) (no_call (close_effect s) made)) in
    let finished : settle_all (looped call.Close (settle_all p)) ≡ stage (close_effect s) made (ready []) =
    ap (λ (q : Progress). settle_all (looped call.Close q)) settled ∙ ap settle_all closed ∙ still in
    subst (λ (made : List Entry). Counts made n (suc (suc e)) u d) (sym (ap (λ (q : Progress). q.made) finished))
    (entry_counts awaited.made 1 call.Close (reply.Decisions []) n (suc e) u d 0 0 0 nothing_adds awaited.counts)

-- ---- The run

-- of one round and so many more
counted_run : (j : ℕ) → AreCounts (suc j) (counted (run_of (suc j)))
unfolding scheduled start
counted_run j =
    let cycles : ℕ = 10 * suc j in
    let lines_are : later_rounds 0 (suc j) ≡ rounds_calls (suc j) =
    (let same : suc j + 0 ≡ suc j = omega arith in rounds_are (suc j) 0 ∙ ap rounds_calls same) in
    let w = all_rounds cycles (stage (at_boot cycles) [] (ready (opening_calls ++ later_rounds 0 (suc j)))) j 1
    (omega arith) (first_round cycles (later_rounds 1 j) (omega arith)) in
    let last : w.index ≡ cycles = omega (arith, w.is_index) in
    let closed =
    finish_counts cycles w.index w.count w.entries w.updates w.done
    (run.cycles w.index (stage (at_boot cycles) [] (ready (opening_calls ++ later_rounds 0 (suc j))))) w.awaits in
    let counts : Counts (run_of (suc j)) w.index (suc (suc w.entries)) w.updates w.done =
    subst (λ (lines : List Call). Counts
    (finish (run.cycles cycles (stage (at_boot cycles) [] (ready (opening_calls ++ lines))))).made w.index
    (suc (suc w.entries)) w.updates w.done) lines_are
    (subst (λ k. Counts
    (finish (run.cycles k (stage (at_boot cycles) [] (ready (opening_calls ++ later_rounds 0 (suc j)))))).made w.index
    (suc (suc w.entries)) w.updates w.done) last closed) in
    record {
      cycles = counts.of_cycles ∙ last;
      entries = counts.of_entries ∙ omega (arith, w.is_entries);
      updates = counts.of_updates ∙ omega (arith, w.is_updates);
      done = counts.of_done ∙ omega (arith, w.is_done);
      refused = counts.none_refused;
      ended = counts.none_ended;
    }

-- of so many rounds, of which there is one at least
pub counted_runs : (rounds : ℕ) → 1 ≤ rounds → AreCounts rounds (counted (run_of rounds))
counted_runs zero least = absurd (omega (arith, least))
counted_runs (suc j) least = counted_run j
