-- The cycles of a round, one after another: what was asked, what is counted, and which lines are left.
use Rattle.std.proofs.Common.{◌≡◌, ℕ, suc, ◌+◌, ◌<◌, List, [], ◌∷◌, ℤ, ap, ◌∙◌}
use Rattle.fixed_num.specs.declared.value.Value.{Value}
use Rattle.fixed_num.specs.declared.value.Value.TheVariants.{Unset, Num}
use Rattle.cm_document.specs.declared.call.Call.{Call}
use Rattle.cm_document.specs.declared.call.Call.TheVariants as call
use Rattle.cm_model.specs.Scheduled.{Session, Progress, with_cycle}
use Rattle.cm_model.specs.State.{State, Loaded}
use Rattle.cm_model.specs.declared.request.Request.{Request}
use Rattle.make_document.specs.Made.{controller_name}
use Rattle.make_document.specs.Meant.{strictly}
use Rattle.made_laws.proofs.AskedLemmas.{AreDecided, with_request, with_done, one_more}
use Rattle.made_laws.proofs.CountingLemmas.{plus}
use Rattle.made_laws.proofs.CycleLemmas.{stopping, starting, plain_flies, stop_flies, start_flies, cycle_on}
use Rattle.made_laws.proofs.FlightLemmas.{Stands}
use Rattle.made_laws.proofs.RoundLemmas.{RoundOf, one_value, with_values, sent_state, stopped_state}
use Rattle.made_laws.proofs.SessionLemmas.{ready, waits, settles_told, settles_awaited}
use Rattle.made_laws.proofs.SessionLemmas.{settles_awaiting, settles_sent, settles_switch}
use Rattle.made_laws.proofs.Standing.{running, but_stopped, but_sent, eight, Asked, between}

-- all eight run, nothing waits, and the session has these lines left
pub record Awaits (cycles n count : ℕ) (lines : List Call) (entries updates done : ℕ) (p : Progress) : Type 0 where
  pub held : ℕ → List Value
  pub asked : Asked
  pub are : AreDecided asked count
  pub stands : Stands cycles n (eight (running held)) asked (ready lines) entries updates done p

-- the controllers are these, and the session is still to be told of its last request, which was carried out
pub record IsToBeTold (cycles n count : ℕ) (of : (ℕ → List Value) → ℕ → Loaded) (lines : List Call)
    (entries updates done : ℕ) (p : Progress) : Type 0 where
  pub held : ℕ → List Value
  pub asked : Asked
  pub last : Request
  pub are : AreDecided asked count
  pub stands : Stands cycles n (eight (of held)) (with_done (with_request asked last)) (waits count lines) entries
      updates done p

-- what comes of a stage comes of what is that stage
along : (cycles n entries updates done m : ℕ) (loaded : List Loaded) (asked : Asked) (session : Session)
    (p q : Progress) → p ≡ q
    → Stands cycles n loaded asked session entries updates done (with_cycle m q)
    → Stands cycles n loaded asked session entries updates done (with_cycle m p)
along cycles n entries updates done m loaded asked session p q same stands =
    record { held = stands.held; made = stands.made; is = ap (with_cycle m) same ∙ stands.is; counts = stands.counts }

-- a cycle in which the session waits for a later one
pub idle_stage : (cycles n count m : ℕ) (lines : List Call) (entries updates done : ℕ) (p : Progress) → n < m
    → n < cycles
    → Awaits cycles n count (call.Await m ∷ lines) entries updates done p
    → Awaits cycles (suc n) count (call.Await m ∷ lines) (suc (suc entries)) (plus 8 updates) done (with_cycle n p)
idle_stage cycles n count m lines entries updates done p later more w =
    let st = w.stands in
    let all : List Loaded = eight (running w.held) in
    let session : Session = ready (call.Await m ∷ lines) in
    record {
      held = w.held;
      asked = w.asked;
      are = w.are;
      stands = along cycles (suc n) (suc (suc entries)) (plus 8 updates) done n all w.asked session p _ st.is
          (cycle_on cycles n (between cycles all st.held w.asked n) st.made session session all st.held w.asked all
          w.asked entries updates done 8 0 more
          (settles_awaiting cycles n all st.held w.asked count w.are st.made m lines entries updates done later
          st.counts)
          (plain_flies cycles n count w.held st.held w.asked w.are));
    }

module _ (a b cycles : ℕ) (round : RoundOf a b) (z : ℤ) where
  -- the calls of a round, before it awaits
  abbrev sends : List Call → List Call
  sends lines = call.Send (controller_name a) (one_value z) ∷ call.Switch (strictly (controller_name b ∷ []) []) ∷ lines

  abbrev restarts : List Call → List Call
  restarts lines = call.Switch (strictly [] (controller_name b ∷ [])) ∷ lines

  -- the first cycle of a round that is not the first
  pub stop_stage : (n count : ℕ) (lines : List Call) (entries updates done : ℕ) (p : Progress) → n < cycles
      → Awaits cycles n count (call.Await n ∷ sends lines) entries updates done p
      → IsToBeTold cycles (suc n) count (λ held. but_stopped b (running held)) lines (plus 5 entries) (plus 7 updates)
      (suc done) (with_cycle n p)
  stop_stage n count lines entries updates done p more w =
      let st = w.stands in
      let all : List Loaded = eight (running w.held) in
      let sent : List Loaded = eight (but_sent a (one_value z) (running w.held)) in
      let asking : Asked = with_request w.asked (stopping a b cycles n count round w.held st.held w.asked w.are) in
      let to : State = sent_state cycles a w.held z st.held asking n in
      record {
        held = with_values a (Num z ∷ []) w.held;
        asked = w.asked;
        last = stopping a b cycles n count round w.held st.held w.asked w.are;
        are = w.are;
        stands = along cycles (suc n) (plus 5 entries) (plus 7 updates) (suc done) n _ _ _ p _ st.is
            (cycle_on cycles n (between cycles all st.held w.asked n) st.made (ready (call.Await n ∷ sends lines))
            (waits count lines) sent st.held asking _ _ (plus 3 entries) updates done 7 1 more
            (settles_awaited cycles n all st.held w.asked count w.are st.made (sends lines) to (waits count lines)
            entries updates done (plus 3 entries) st.counts
            (λ made counts. settles_sent a b cycles n round w.held st.held w.asked z made
            (call.Switch (strictly (controller_name b ∷ []) []) ∷ lines) to (waits count lines) (suc entries) updates
            done (plus 3 entries) counts
            (λ made counts. settles_switch cycles n count st.held w.asked w.are sent made
            (strictly (controller_name b ∷ []) []) lines (suc (suc entries)) updates done counts)))
            (stop_flies a b cycles n count round w.held st.held w.asked w.are z));
      }

  -- that of the first round, before which the session is told of the opening's request
  pub first_stop_stage : (n count : ℕ) (lines : List Call) (entries updates done : ℕ) (p : Progress) → n < cycles
      → IsToBeTold cycles n count running (sends lines) entries updates done p
      → IsToBeTold cycles (suc n) (count + 1) (λ held. but_stopped b (running held)) lines (plus 5 entries)
      (plus 7 updates) (suc done) (with_cycle n p)
  first_stop_stage n count lines entries updates done p more w =
      let st = w.stands in
      let all : List Loaded = eight (running w.held) in
      let sent : List Loaded = eight (but_sent a (one_value z) (running w.held)) in
      let asked : Asked = with_done (with_request w.asked w.last) in
      let are : AreDecided asked (count + 1) = one_more w.asked w.last count w.are in
      let asking : Asked = with_request asked (stopping a b cycles n (count + 1) round w.held st.held asked are) in
      let to : State = sent_state cycles a w.held z st.held asking n in
      record {
        held = with_values a (Num z ∷ []) w.held;
        asked = asked;
        last = stopping a b cycles n (count + 1) round w.held st.held asked are;
        are = are;
        stands = along cycles (suc n) (plus 5 entries) (plus 7 updates) (suc done) n _ _ _ p _ st.is
            (cycle_on cycles n (between cycles all st.held asked n) st.made (waits count (sends lines))
            (waits (count + 1) lines) sent st.held asking _ _ (plus 3 entries) updates done 7 1 more
            (settles_told cycles n count st.held w.asked w.are w.last all st.made (sends lines) to
            (waits (count + 1) lines) entries updates done (plus 3 entries) st.counts
            (λ made counts. settles_sent a b cycles n round w.held st.held asked z made
            (call.Switch (strictly (controller_name b ∷ []) []) ∷ lines) to (waits (count + 1) lines) (suc entries)
            updates done (plus 3 entries) counts
            (λ made counts. settles_switch cycles n (count + 1) st.held asked are sent made
            (strictly (controller_name b ∷ []) []) lines (suc (suc entries)) updates done counts)))
            (stop_flies a b cycles n (count + 1) round w.held st.held asked are z));
      }

  -- the second cycle of a round
  pub start_stage : (n count : ℕ) (lines : List Call) (entries updates done : ℕ) (p : Progress) → n < cycles
      → IsToBeTold cycles n count (λ held. but_stopped b (running held)) (restarts lines) entries updates done p
      → IsToBeTold cycles (suc n) (count + 1) running lines (plus 4 entries) (plus 8 updates) (suc done)
      (with_cycle n p)
  start_stage n count lines entries updates done p more w =
      let st = w.stands in
      let seven : List Loaded = eight (but_stopped b (running w.held)) in
      let asked : Asked = with_done (with_request w.asked w.last) in
      let are : AreDecided asked (count + 1) = one_more w.asked w.last count w.are in
      let asking : Asked = with_request asked (starting a b cycles n (count + 1) round w.held st.held asked are) in
      let to : State = stopped_state cycles b w.held st.held asking n in
      record {
        held = with_values b (Unset ∷ []) w.held;
        asked = asked;
        last = starting a b cycles n (count + 1) round w.held st.held asked are;
        are = are;
        stands = along cycles (suc n) (plus 4 entries) (plus 8 updates) (suc done) n _ _ _ p _ st.is
            (cycle_on cycles n (between cycles seven st.held asked n) st.made (waits count (restarts lines))
            (waits (count + 1) lines) seven st.held asking _ _ (plus 2 entries) updates done 8 1 more
            (settles_told cycles n count st.held w.asked w.are w.last seven st.made (restarts lines) to
            (waits (count + 1) lines) entries updates done (plus 2 entries) st.counts
            (λ made counts. settles_switch cycles n (count + 1) st.held asked are seven made
            (strictly [] (controller_name b ∷ [])) lines (suc entries) updates done counts))
            (start_flies a b cycles n (count + 1) round w.held st.held asked are));
      }

-- the third cycle of a round
pub told_stage : (cycles n count m : ℕ) (lines : List Call) (entries updates done : ℕ) (p : Progress) → n < m
    → n < cycles
    → IsToBeTold cycles n count running (call.Await m ∷ lines) entries updates done p
    → Awaits cycles (suc n) (count + 1) (call.Await m ∷ lines) (plus 3 entries) (plus 8 updates) done (with_cycle n p)
told_stage cycles n count m lines entries updates done p later more w =
    let st = w.stands in
    let all : List Loaded = eight (running w.held) in
    let asked : Asked = with_done (with_request w.asked w.last) in
    let are : AreDecided asked (count + 1) = one_more w.asked w.last count w.are in
    let session : Session = ready (call.Await m ∷ lines) in
    record {
      held = w.held;
      asked = asked;
      are = are;
      stands = along cycles (suc n) (plus 3 entries) (plus 8 updates) done n all asked session p _ st.is
          (cycle_on cycles n (between cycles all st.held asked n) st.made (waits count (call.Await m ∷ lines)) session
          all st.held asked all asked (suc entries) updates done 8 0 more
          (settles_told cycles n count st.held w.asked w.are w.last all st.made (call.Await m ∷ lines)
          (between cycles all st.held asked n) session entries updates done (suc entries) st.counts
          (λ made counts. settles_awaiting cycles n all st.held asked (count + 1) are made m lines (suc entries) updates
          done later counts))
          (plain_flies cycles n (count + 1) w.held st.held asked are));
    }
