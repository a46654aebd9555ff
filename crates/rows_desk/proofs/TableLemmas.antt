-- What calls leave of the flight at hand.
use Rattle.std.proofs.Common.{◌≡◌, ℕ, Bool, true, false, Option, Some, None, refl, sym, ap, subst}
use Rattle.std.specs.Prelude.{is_some, IfSome, IsSomeAnd, MatchOption}
use Rattle.cm_document.specs.declared.call.Call.TheVariants.{Told, Await}
use Rattle.cm_storage.specs.Happened.{Happened}
use Rattle.cm_model.specs.State.{State}
use Rattle.cm_model.specs.declared.cause.Outcome.{Outcome}
use Rattle.cm_model.specs.declared.reply.Reply.TheVariants as reply
use Rattle.cm_desk.specs.Desk.{History, begun_of, now_of, Grows, Waits, GrowsWhere, IsAloftAlike, IsAtHand, IsOut}
use Rattle.cm_desk.proofs.BegunLemmas.{called_alike}
use Rattle.rt_flight.specs.Flights.{FlightFacts, StaysAloft, StaysComputed}

pub not_told : (o : Option Happened) → is_some o ≡ false → o ≡ None
not_told None none = refl
not_told (Some told) none = cc

-- a flight at hand that is not computed is out
pub is_out : (h : History) (f : FlightFacts) → IsAtHand h f → is_some f.outcome ≡ false → IsOut h f
is_out h f at none = at.before (not_told f.outcome none)

-- the flight at hand stays that of the cycle that is aloft
pub hand_alike : (old new : History) (o : Option FlightFacts) → IsAloftAlike old new → IfSome o (IsAtHand old)
    → IfSome o (IsAtHand new)
hand_alike old new None alike at = tt
hand_alike old new (Some f) alike at = record {
  before = λ none. record {
    aloft = subst (λ (b : Option State). IsSomeAnd b (λ begun. StaysAloft begun f)) (sym alike.begun)
        (at.before none).aloft;
    not_yet = (at.before none).not_yet;
  };
  after = λ some. subst (λ (b : Option State). IsSomeAnd b (λ begun. StaysComputed begun f)) (sym alike.begun)
      (at.after some);
}

-- ---- At hand, or not

pub at_hand : (h : History) (o : Option FlightFacts) (f : FlightFacts) → o ≡ Some f → IsAtHand h f
    → IfSome o (IsAtHand h)
at_hand h o f same at = subst (λ (k : Option FlightFacts). IfSome k (IsAtHand h)) (sym same) at

pub held : (h : History) (o : Option FlightFacts) (f : FlightFacts) → IfSome o (IsAtHand h) → o ≡ Some f → IsAtHand h f
held h o f at same = subst (λ (k : Option FlightFacts). IfSome k (IsAtHand h)) same at

pub gone : (h : History) (o : Option FlightFacts) → o ≡ None → IfSome o (IsAtHand h)
gone h o none = subst (λ (k : Option FlightFacts). IfSome k (IsAtHand h)) (sym none) tt

-- ---- Sessions

alike_same : (old new : History) → new ≡ old → IsAloftAlike old new
alike_same old new same = record { begun = ap begun_of same; aloft = ap (λ (h : History). (now_of h).aloft) same }

-- what is told of a ticket leaves the cycle that is aloft, and so does an await, whether it waits or not
pub told_alike : (old new : History) (who ticket : ℕ) (outcome : Option Outcome)
    → MatchOption outcome (Waits old new who (Told ticket)) (λ o. Grows old new who (Told ticket) (reply.Outcome o))
    → IsAloftAlike old new
told_alike old new who ticket None waits = alike_same old new waits.1
told_alike old new who ticket (Some o) grows = called_alike old new who (Told ticket) (reply.Outcome o) tt grows

pub reached_alike : (old new : History) (who cycles : ℕ) (reached : Bool)
    → GrowsWhere reached old new who (Await cycles) reply.Done → IsAloftAlike old new
reached_alike old new who cycles true grows = called_alike old new who (Await cycles) reply.Done tt grows
reached_alike old new who cycles false waits = alike_same old new waits.1
