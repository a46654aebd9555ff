-- The cycles of a made run: that in which a controller is stopped, that in which it is started again, and the others.
use Rattle.std.proofs.Common.{◌≡◌, ℕ, suc, ◌<◌, List, [], ◌∷◌, length, ℤ, pos, Some, refl, ap, ap₂, ◌∙◌}
use Rattle.fixed_num.specs.declared.value.Value.{Value}
use Rattle.fixed_num.specs.declared.value.Value.TheVariants.{Unset, Num}
use Rattle.cm_document.specs.declared.call.Call.TheVariants as call
use Rattle.cm_model.specs.Boundary.{concluded, boundary, decisions_between}
use Rattle.cm_model.specs.Cycle.{begun}
use Rattle.cm_model.specs.Scheduled.{Session, Progress, with_cycle, looped}
use Rattle.cm_model.specs.State.{State, Loaded, MailAloft}
use Rattle.cm_model.specs.declared.cause.Outcome.TheVariants as outcome
use Rattle.cm_model.specs.declared.entry.Entry.{Entry}
use Rattle.cm_model.specs.declared.request.Request.{Request}
use Rattle.cm_model.specs.declared.request.Request.TheVariants as request
use Rattle.make_document.specs.Made.{controller_name}
use Rattle.make_document.specs.Meant.{strictly}
use Rattle.made_laws.proofs.AskedLemmas.{AreDecided, with_request, with_done, nothing_decided}
use Rattle.made_laws.proofs.AskedLemmas.{nothing_told, one_decided, one_told}
use Rattle.made_laws.proofs.CountingLemmas.{plus, nothing_adds, one_adds}
use Rattle.made_laws.proofs.FlightLemmas.{stage, settled_to, Stands, begun_is, Flies, flown_on}
use Rattle.made_laws.proofs.RoundLemmas.{RoundOf, one_value, with_values, sent_state, stopped_state}
use Rattle.made_laws.proofs.SessionLemmas.{point, Settles}
use Rattle.made_laws.proofs.Standing.{running, but_stopped, but_sent, eight, Held}
use Rattle.made_laws.proofs.Standing.{held_in, Asked, between, aloft_with, plain_cycle}

-- ---- What each begins with

-- nothing was asked: all eight are updated
pub plain_flies : (cycles n count : ℕ) (held : ℕ → List Value) (h : Held) (asked : Asked) → AreDecided asked count
    → Flies cycles n (eight (running held)) h asked (eight (running held)) asked 8 0
plain_flies cycles n count held h asked are =
    let s : State = between cycles (eight (running held)) h asked n in
    record {
      flying = eight (running held);
      holding = h;
      mails = [];
      decisions = [];
      begins = ap begun (nothing_decided cycles (eight (running held)) h asked n count are)
          ∙ begun_is s (refl, (refl, (refl, (refl, (refl, (refl, (refl, (refl, tt))))))));
      tells = nothing_told cycles (eight (running held)) h asked n count are;
      adds = nothing_adds;
      ends = plain_cycle cycles n held h asked;
    }

module _ (a b cycles n count : ℕ) (round : RoundOf a b) (held : ℕ → List Value) (h : Held) (asked : Asked)
    (are : AreDecided asked count) where
  abbrev pub stopping : Request
  stopping = request.Switch (strictly (controller_name b ∷ []) [])

  abbrev pub starting : Request
  starting = request.Switch (strictly [] (controller_name b ∷ []))

  -- one is asked to stop, and mail waits for another: the other seven are updated
  pub stop_flies : (z : ℤ)
      → Flies cycles n (eight (but_sent a (one_value z) (running held))) h (with_request asked stopping)
      (eight (but_stopped b (running (with_values a (Num z ∷ []) held)))) (with_done (with_request asked stopping)) 7 1
  stop_flies z =
      let s : State = sent_state cycles a held z h (with_request asked stopping) n in
      let told : Asked = with_done (with_request asked stopping) in
      let h₁ : Held = held_in (concluded s stopping).state in
      let s₁ : State = between cycles (eight (but_stopped b (but_sent a (one_value z) (running held)))) h₁ told n in
      let there = round cycles n held h (with_request asked stopping) z in
      let decided : boundary s ≡ s₁ =
      one_decided cycles (eight (but_sent a (one_value z) (running held))) h asked n count are stopping
      ∙ there.stopped in
      record {
        flying = eight (but_stopped b (running held));
        holding = h₁;
        mails = record { serial = a; mail = one_value z } ∷ [];
        decisions = record { ticket = Some (length asked.outcomes); outcome = outcome.Done [] } ∷ [];
        begins = ap begun decided ∙ begun_is s₁ there.due
            ∙ ap₂ (λ (loaded : List Loaded) (mails : List MailAloft). aloft_with mails
            (between cycles loaded h₁ told n)) there.mailed.0 there.mailed.1;
        tells = ap (λ (after : State). decisions_between s after) decided
            ∙ one_told cycles (eight (but_sent a (one_value z) (running held))) h asked n count are stopping s₁ refl;
        adds = one_adds (length asked.outcomes);
        ends = (round cycles n held h₁ told z).flown;
      }

  -- it is asked to start again: all eight are updated
  pub start_flies : Flies cycles n (eight (but_stopped b (running held))) h (with_request asked starting)
      (eight (running (with_values b (Unset ∷ []) held))) (with_done (with_request asked starting)) 8 1
  start_flies =
      let s : State = stopped_state cycles b held h (with_request asked starting) n in
      let told : Asked = with_done (with_request asked starting) in
      let h₁ : Held = held_in (concluded s starting).state in
      let s₁ : State = between cycles (eight (running (with_values b (Unset ∷ []) held))) h₁ told n in
      let decided : boundary s ≡ s₁ =
      one_decided cycles (eight (but_stopped b (running held))) h asked n count are starting
      ∙ (round cycles n held h (with_request asked starting) (pos 0)).started in
      record {
        flying = eight (running (with_values b (Unset ∷ []) held));
        holding = h₁;
        mails = [];
        decisions = record { ticket = Some (length asked.outcomes); outcome = outcome.Done [] } ∷ [];
        begins = ap begun decided ∙ begun_is s₁ (refl, (refl, (refl, (refl, (refl, (refl, (refl, (refl, tt))))))));
        tells = ap (λ (after : State). decisions_between s after) decided
            ∙ one_told cycles (eight (but_stopped b (running held))) h asked n count are starting s₁ refl;
        adds = one_adds (length asked.outcomes);
        ends = plain_cycle cycles n (with_values b (Unset ∷ []) held) h₁ told;
      }

-- ---- One cycle more

-- A session settles, and a cycle is flown.
pub cycle_on : (cycles n : ℕ) (s : State) (made : List Entry) (session settled : Session) (loaded : List Loaded)
    (h : Held) (asked : Asked) (after : List Loaded) (told : Asked)
    (entries updates done u d : ℕ) → n < cycles
    → Settles cycles n (point s made session) (between cycles loaded h asked n) settled entries updates done
    → Flies cycles n loaded h asked after told u d
    → Stands cycles (suc n) after told settled (suc (suc entries)) (plus u updates) (plus d done)
    (with_cycle n (stage s made session))
unfolding with_cycle
cycle_on cycles n s made session settled loaded h asked after told entries updates done u d more settles flies =
    let stands =
    flown_on cycles n settles.made settled loaded h asked after told entries updates done u d more flies
    settles.counts in
    record {
      held = stands.held;
      made = stands.made;
      is = ap (λ (p : Progress). looped (call.End n) (looped (call.Begin n) p))
          (settled_to s made session (point (between cycles loaded h asked n) settles.made settled) settles.is)
          ∙ stands.is;
      counts = stands.counts;
    }
