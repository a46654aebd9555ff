-- What the requests and the mail of a round come to, for each of the eight controllers that it may be about: computed.
use Rattle.std.proofs.Common.{◌≡◌, ℕ, zero, suc, ◌+◌, ◌%◌, ◌<◌, List, [], ◌∷◌, map, filter_map, ℤ, Some, refl, arith}
use Rattle.std.specs.Prelude.{◌==◌, if◌then◌else◌}
use Rattle.std.specs.Fmt.{digits}
use Rattle.std.specs.List.{AllByRecursion}
use Rattle.fixed_num.specs.declared.value.Value.{Value}
use Rattle.fixed_num.specs.declared.value.Value.TheVariants.{Unset, Num}
use Rattle.cm_document.specs.declared.call.Call.TheVariants as call
use Rattle.cm_document.specs.declared.call.Mail.{Mail}
use Rattle.cm_document.specs.declared.call.Mail.TheVariants.{Values}
use Rattle.cm_model.specs.BestEffort.{stays_within}
use Rattle.cm_model.specs.Boundary.{concluded, with_outcome}
use Rattle.cm_model.specs.Commit.{commit}
use Rattle.cm_model.specs.Cycle.{reaches, after_cycle}
use Rattle.cm_model.specs.Machine.{step}
use Rattle.cm_model.specs.Order.{rank_within}
use Rattle.cm_model.specs.State.{State, Loaded}
use Rattle.cm_model.specs.declared.reply.Reply.TheVariants as reply
use Rattle.cm_model.specs.declared.request.Request.TheVariants as request
use Rattle.make_document.specs.Made.{controller_name}
use Rattle.make_document.specs.Meant.{strictly}
use Rattle.made_laws.proofs.AskedLemmas.{with_done}
use Rattle.made_laws.proofs.DueLemmas.{mail_of, without_mail}
use Rattle.made_laws.proofs.Standing.{running, but_stopped, but_sent, eight, Held, held_in}
use Rattle.made_laws.proofs.Standing.{Asked, between, aloft_with, ComesTo, comes_to}

-- these values, but others at one place
abbrev pub with_values : ℕ → List Value → (ℕ → List Value) → ℕ → List Value
with_values a values held i = if i == a then values else held i

-- one value as mail
abbrev pub one_value : ℤ → Mail
one_value z = Values (z ∷ [])

-- the states that a round comes through, after so many cycles: it was sent to; the other was stopped
abbrev pub sent_state : ℕ → ℕ → (ℕ → List Value) → ℤ → Held → Asked → ℕ → State
sent_state cycles a held z h asked n = between cycles (eight (but_sent a (one_value z) (running held))) h asked n

abbrev pub stopped_state : ℕ → ℕ → (ℕ → List Value) → Held → Asked → ℕ → State
stopped_state cycles b held h asked n = between cycles (eight (but_stopped b (running held))) h asked n

-- What a round of these two controllers comes to, from where it begins.
pub record RoundComesTo (a b cycles n : ℕ) (held : ℕ → List Value) (h : Held) (asked : Asked) (z : ℤ) : Type 0 where
  -- the one is sent to
  pub sent : step (between cycles (eight (running held)) h asked n) 0 (call.Send (controller_name a) (one_value z))
      ≡ Some (sent_state cycles a held z h asked n, reply.Done)
  -- the other is stopped
  pub stopped : with_outcome
      (concluded (sent_state cycles a held z h asked n) (request.Switch (strictly (controller_name b ∷ []) [])))
      ≡ between cycles (eight (but_stopped b (but_sent a (one_value z) (running held))))
      (held_in (concluded (sent_state cycles a held z h asked n)
      (request.Switch (strictly (controller_name b ∷ []) []))).state) (with_done asked) n
  -- the mail of the one goes aloft
  pub mailed : (map without_mail (eight (but_stopped b (but_sent a (one_value z) (running held))))
      ≡ eight (but_stopped b (running held)))
      × (filter_map mail_of (eight (but_stopped b (but_sent a (one_value z) (running held))))
      ≡ record { serial = a; mail = one_value z } ∷ [])
  pub due : AllByRecursion (λ (l : Loaded). l.divisor ≡ Some 1)
      (eight (but_stopped b (but_sent a (one_value z) (running held))))
  -- the other seven are updated
  pub flown : ComesTo cycles
      (aloft_with (record { serial = a; mail = one_value z } ∷ []) (stopped_state cycles b held h asked n))
      (eight (but_stopped b (running (with_values a (Num z ∷ []) held)))) asked n 7
  -- the other is started
  pub started : with_outcome
      (concluded (stopped_state cycles b held h asked n) (request.Switch (strictly [] (controller_name b ∷ []))))
      ≡ between cycles (eight (running (with_values b (Unset ∷ []) held)))
      (held_in (concluded (stopped_state cycles b held h asked n)
      (request.Switch (strictly [] (controller_name b ∷ [])))).state) (with_done asked) n

-- A round of these two controllers, from wherever it begins.
abbrev pub RoundOf : ℕ → ℕ → Type 0
RoundOf a b =
    (cycles n : ℕ) (held : ℕ → List Value) (h : Held) (asked : Asked) (z : ℤ) → RoundComesTo a b cycles n held h asked z

-- each of them, computed
pub round_of : (r : ℕ) → r < 8 → RoundOf r ((r + 1) % 8)
unfolding rank_within stays_within reaches commit after_cycle step digits
round_of zero below cycles n held h asked z =
    record {
      sent = refl;
      stopped = refl;
      mailed = (refl, refl);
      due = search;
      started = refl;
      flown = comes_to _ _ _ _ _ _ (search) refl refl;
    }
round_of (suc zero) below cycles n held h asked z =
    record {
      sent = refl;
      stopped = refl;
      mailed = (refl, refl);
      due = search;
      started = refl;
      flown = comes_to _ _ _ _ _ _ (search) refl refl;
    }
round_of (suc (suc zero)) below cycles n held h asked z =
    record {
      sent = refl;
      stopped = refl;
      mailed = (refl, refl);
      due = search;
      started = refl;
      flown = comes_to _ _ _ _ _ _ (search) refl refl;
    }
round_of (suc (suc (suc zero))) below cycles n held h asked z =
    record {
      sent = refl;
      stopped = refl;
      mailed = (refl, refl);
      due = search;
      started = refl;
      flown = comes_to _ _ _ _ _ _ (search) refl refl;
    }
round_of (suc (suc (suc (suc zero)))) below cycles n held h asked z =
    record {
      sent = refl;
      stopped = refl;
      mailed = (refl, refl);
      due = search;
      started = refl;
      flown = comes_to _ _ _ _ _ _ (search) refl refl;
    }
round_of (suc (suc (suc (suc (suc zero))))) below cycles n held h asked z =
    record {
      sent = refl;
      stopped = refl;
      mailed = (refl, refl);
      due = search;
      started = refl;
      flown = comes_to _ _ _ _ _ _ (search) refl refl;
    }
round_of (suc (suc (suc (suc (suc (suc zero)))))) below cycles n held h asked z =
    record {
      sent = refl;
      stopped = refl;
      mailed = (refl, refl);
      due = search;
      started = refl;
      flown = comes_to _ _ _ _ _ _ (search) refl refl;
    }
round_of (suc (suc (suc (suc (suc (suc (suc zero))))))) below cycles n held h asked z =
    record {
      sent = refl;
      stopped = refl;
      mailed = (refl, refl);
      due = search;
      started = refl;
      flown = comes_to _ _ _ _ _ _ (search) refl refl;
    }
round_of (suc (suc (suc (suc (suc (suc (suc (suc r)))))))) below cycles n held h asked z = absurd (omega (arith, below))
