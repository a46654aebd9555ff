-- How the loop stands after each call of it, as its pass has then seen.
use Rattle.std.proofs.Common.{◌≡◌, ℕ, ◌+◌, Bool, true, false, List, Option}
use Rattle.std.proofs.Common.{Some, None, refl, sym, ap, ap₂, subst, ◌∙◌, arith}
use Rattle.std.specs.Prelude.{◌≢◌, ◌-◌, is_some, IfSome}
use mathlib.Core.List.{IsPrefix}
use Rattle.cm_document.specs.declared.call.Call.{Call}
use Rattle.cm_document.specs.declared.call.Call.TheVariants.{Begin, End, Close}
use Rattle.cm_document.specs.declared.description.Description.{Description}
use Rattle.cm_model.specs.Commit.{commit}
use Rattle.cm_model.specs.Cycle.{after_cycle, cycle}
use Rattle.cm_model.specs.Histories.{SameLoop}
use Rattle.cm_model.specs.Machine.{can_begin, can_close}
use Rattle.cm_model.specs.State.{State}
use Rattle.cm_model.specs.declared.reply.Reply.{Reply}
use Rattle.cm_model.proofs.StayLemmas.{boundary-SameLoop, step-IsStep, step-Stands}
use Rattle.cm_model.specs.Boundary.{begin_reply, close_reply}
use Rattle.cm_model.specs.Sessions.{entries_by}
use Rattle.cm_model.specs.declared.entry.Entry.{Entry}
use Rattle.cm_model.specs.declared.reply.Reply.TheVariants as reply
use Rattle.cm_desk.specs.Desk.{History, Grows, GoesOnWithoutLoop, IsAtHand, IsOut, now_of}
use Rattle.cm_desk.proofs.BegunLemmas.{computed_at_hand, out_at_hand}
use Rattle.cm_desk.proofs.LoopLemmas.{begins_where, closes_where, stands_alike}
use Rattle.rt_flight.specs.Flights.{FlightFacts, IsAloft, IsComputed}
use Rattle.turn_lock.specs.declared.kept.Kept.{Ghosts}
use Rattle.turn_lock.specs.declared.lock.TurnLock.{TurnLock}
use Rattle.turn_lock.specs.declared.pass.TurnPass.{TurnPass}
use Rattle.turn_lock.specs.Passes.{view}
use Rattle.shared_desk.specs.Calls.Looping.{BeginsThere, LandsThere, ClosesThere, stand_of}
use Rattle.shared_desk.specs.Passes.{history_of, IsLoopPass}
use Rattle.shared_desk.specs.Turns.{TakesTurn, Stays}
use Rattle.rows_desk.specs.Shared.{StandsSo, IsLoopOf}
use Rattle.rows_desk.specs.declared.shared.stand.LoopStand.{LoopStand}

-- where the loop stands alike it stands so too
pub stands_so : (s t : State) (stand : LoopStand) → SameLoop s t → StandsSo s stand → StandsSo t stand
stands_so s t stand same so = record {
  left = so.left
      ∙ ap₂ (λ (a b : ℕ). a - b) (ap (λ (d : Description). d.cycles) (sym same.description)) (sym same.ended);
  aloft = so.aloft ∙ sym same.aloft;
  closed = so.closed ∙ sym same.closed;
}

-- a step leaves the description
same_cycles : (old new : History) (who : ℕ) (call : Call) (r : Reply) → Grows old new who call r
    → (now_of new).description.cycles ≡ (now_of old).description.cycles
same_cycles old new who call r grows =
    ap (λ (d : Description). d.cycles) (step-Stands (now_of old) who call (now_of new, r) grows.stepped).description

-- a begin leaves as many cycles left, and one aloft
pub began_so : (old new : History) (who : ℕ) (r : Reply) (left : ℕ) (aloft closed : Bool)
    → Grows old new who (Begin (now_of old).ended) r
    → StandsSo (now_of old) (record { left = left; aloft = aloft; closed = closed })
    → StandsSo (now_of new) (record { left = left; aloft = true; closed = closed })
began_so old new who r left aloft closed grows so =
    let s = now_of old in
    let next = (step-IsStep s who (Begin s.ended) (now_of new, r) grows.stepped).next in
    let loop = boundary-SameLoop s in
    record {
      left = so.left
          ∙ ap₂ (λ (a b : ℕ). a - b) (sym (same_cycles old new who (Begin s.ended) r grows))
          (sym (ap (λ (t : State). t.ended) next ∙ loop.ended));
      aloft = sym (ap (λ (t : State). t.aloft) next);
      closed = so.closed ∙ sym (ap (λ (t : State). t.closed) next ∙ loop.closed);
    }

one_less : (left cycles ended : ℕ) → left ≡ cycles - ended → left - 1 ≡ cycles - (ended + 1)
one_less left cycles ended same = omega (arith, same)

-- an end leaves one less, and none aloft
pub landed_so : (old new : History) (who : ℕ) (r : Reply) (left : ℕ) (aloft closed : Bool)
    → Grows old new who (End (now_of old).ended) r
    → StandsSo (now_of old) (record { left = left; aloft = aloft; closed = closed })
    → StandsSo (now_of new) (record { left = left - 1; aloft = false; closed = closed })
unfolding after_cycle commit
landed_so old new who r left aloft closed grows so =
    let s = now_of old in
    let next = (step-IsStep s who (End s.ended) (now_of new, r) grows.stepped).next in
    record {
      left =
          one_less left s.description.cycles s.ended so.left
          ∙ ap₂ (λ (a b : ℕ). a - b) (sym (same_cycles old new who (End s.ended) r grows))
          (sym (ap (λ (t : State). t.ended) next));
      aloft = sym (ap (λ (t : State). t.aloft) next);
      closed = so.closed ∙ sym (ap (λ (t : State). t.closed) next);
    }

-- the close leaves the loop closed
pub closed_so : (old new : History) (who : ℕ) (r : Reply) (left : ℕ) (aloft closed : Bool) → Grows old new who Close r
    → StandsSo (now_of old) (record { left = left; aloft = aloft; closed = closed })
    → StandsSo (now_of new) (record { left = left; aloft = aloft; closed = true })
closed_so old new who r left aloft closed grows so =
    let s = now_of old in
    let next = (step-IsStep s who Close (now_of new, r) grows.stepped).next in
    record {
      left = so.left
          ∙ ap₂ (λ (a b : ℕ). a - b) (sym (same_cycles old new who Close r grows))
          (sym (ap (λ (t : State). t.ended) next));
      aloft = so.aloft ∙ sym (ap (λ (t : State). t.aloft) next);
      closed = sym (ap (λ (t : State). t.closed) next);
    }

-- ---- When

-- a cycle can begin where none is aloft, the loop is open and cycles are left
pub begins_so : (now : State) (stand : LoopStand) → StandsSo now stand → stand.aloft ≡ false → stand.closed ≡ false
    → stand.left ≢ 0 → can_begin now now.ended ≡ true
begins_so now stand so home unclosed some =
    begins_where now.aloft now.closed now.ended now.description.cycles (sym so.aloft ∙ home) (sym so.closed ∙ unclosed)
    (omega (arith, so.left, some))

-- and the loop can close where none is aloft and it is open
pub closes_so : (now : State) (stand : LoopStand) → StandsSo now stand → stand.aloft ≡ false → stand.closed ≡ false
    → can_close now ≡ true
closes_so now stand so home unclosed =
    closes_where now.aloft now.closed (sym so.aloft ∙ home) (sym so.closed ∙ unclosed)

-- ---- Flights

pub at_hand : (P : FlightFacts → Type 0) (o : Option FlightFacts) (f : FlightFacts) → o ≡ Some f → IfSome o P → P f
at_hand P o f is all = subst (λ (k : Option FlightFacts). IfSome k P) is all

pub not_at_hand : (P : FlightFacts → Type 0) (o : Option FlightFacts) → o ≡ None → IfSome o P
not_at_hand P o none = subst (λ (k : Option FlightFacts). IfSome k P) (sym none) tt

-- what is aloft is not home
aloft_not_home : (o : Option FlightFacts) → true ≡ false → o ≡ None
aloft_not_home o both = cc

both_none : (o : Option FlightFacts) (f g : FlightFacts) → o ≡ Some f → o ≡ None → Some g ≡ None
both_none o f g some none = cc

-- ---- Turns of its pass

module _ {K : Type 0} {g : Ghosts K Entry State} (lock : TurnLock K Entry State) (first : History) where
  still_loop : (p q : TurnPass K Entry State g) (found : History) → IsLoopPass lock first p
      → TakesTurn lock first p q found → IsLoopPass lock first q
  still_loop p q found is turn = record { at = turn.still; loop = turn.number ∙ is.loop }

  -- where no entry is made the loop stands as it stood
  pub stays_loop : (p q : TurnPass K Entry State g) (stand : LoopStand) (flight : Option FlightFacts)
      → IsLoopOf lock first p stand flight → stand.aloft ≡ false → Stays lock first p q
      → IsLoopOf lock first q stand flight
  stays_loop p q stand flight is home stays =
      let turn = stays.turn in
      let seen : (view q).seen ≡ stays.found.made = ap (λ (h : History). h.made) stays.none in
      let goes_on : GoesOnWithoutLoop (history_of first.opening p) (history_of first.opening q) = record {
        opening = refl;
        begins = subst (λ (made : List Entry). IsPrefix (view p).seen made) (sym seen) turn.begins;
        own =
            subst (λ (n : ℕ). entries_by n (view q).seen ≡ entries_by n (view p).seen) is.looping.loop
            (subst (λ (made : List Entry). entries_by p.number made ≡ entries_by p.number (view p).seen) (sym seen)
            turn.own);
      } in
      let stands = stands_alike (history_of first.opening p) (history_of first.opening q) turn.right.legal goes_on in
      record {
        looping = still_loop p q stays.found is.looping turn;
        stands = stands_so (stand_of first p) (stand_of first q) stand stands.loop is.stands;
        home = is.home;
        at_hand = not_at_hand (IsAtHand (history_of first.opening q)) flight (is.home home);
      }

  pub begins_loop : (p q : TurnPass K Entry State g) (stand : LoopStand) (flight now : Option FlightFacts)
      (f : FlightFacts) → IsLoopOf lock first p stand flight → BeginsThere lock first p q
      → IsOut (history_of first.opening q) f → now ≡ Some f
      → IsLoopOf lock first q (record { left = stand.left; aloft = true; closed = stand.closed }) now
  begins_loop p q stand flight now f is begins flies now_is =
      let same = begins.stands.loop in
      record {
        looping = still_loop p q begins.found is.looping begins.turn;
        stands =
            began_so begins.found (history_of first.opening q) p.number (begin_reply (now_of begins.found)) stand.left
            stand.aloft stand.closed
            (subst (λ (n : ℕ). Grows begins.found (history_of first.opening q) p.number (Begin n)
            (begin_reply (now_of begins.found))) (sym same.ended) begins.grows)
            (stands_so (stand_of first p) (now_of begins.found) stand same is.stands);
        home = aloft_not_home now;
        at_hand = subst (λ (o : Option FlightFacts). IfSome o (IsAtHand (history_of first.opening q))) (sym now_is)
            (out_at_hand (history_of first.opening q) f flies);
      }

  -- the flight that was out is computed
  pub computes_loop : (p : TurnPass K Entry State g) (stand : LoopStand) (flight : Option FlightFacts)
      (f g : FlightFacts) → IsLoopOf lock first p stand flight → flight ≡ Some f → f.outcome ≡ None
      → ((s : State) → IsAloft s f → IsComputed s g) → is_some g.outcome ≡ true
      → IsLoopOf lock first p stand (Some g)
  computes_loop p stand flight f g is same none made some =
      let at = at_hand (IsAtHand (history_of first.opening p)) flight f same is.at_hand in
      record {
        looping = is.looping;
        stands = is.stands;
        home = λ home. both_none flight f g same (is.home home);
        at_hand = computed_at_hand (history_of first.opening p) f g (at.before none) made some;
      }

  pub lands_loop : (p q : TurnPass K Entry State g) (stand : LoopStand) (flight : Option FlightFacts) (left : ℕ)
      (gone : Option FlightFacts) → IsLoopOf lock first p stand flight
      → LandsThere lock first p q → left ≡ stand.left - 1 → gone ≡ None
      → IsLoopOf lock first q (record { left = left; aloft = false; closed = stand.closed }) gone
  lands_loop p q stand flight left gone is lands less none =
      let same = lands.stands.loop in
      let told = reply.Cycle (cycle lands.begun).happened in
      record {
        looping = still_loop p q lands.found is.looping lands.turn;
        stands =
            subst (λ (n : ℕ). StandsSo (stand_of first q) (record { left = n; aloft = false; closed = stand.closed }))
            (sym less)
            (landed_so lands.found (history_of first.opening q) p.number told stand.left stand.aloft stand.closed
            (subst (λ (n : ℕ). Grows lands.found (history_of first.opening q) p.number (End n) told) (sym same.ended)
            lands.grows)
            (stands_so (stand_of first p) (now_of lands.found) stand same is.stands));
        home = λ home. none;
        at_hand = not_at_hand (IsAtHand (history_of first.opening q)) gone none;
      }

  pub closes_loop : (p q : TurnPass K Entry State g) (stand : LoopStand) (flight : Option FlightFacts)
      → IsLoopOf lock first p stand flight → stand.aloft ≡ false → ClosesThere lock first p q
      → IsLoopOf lock first q (record { left = stand.left; aloft = stand.aloft; closed = true }) flight
  closes_loop p q stand flight is home closes = record {
    looping = still_loop p q closes.found is.looping closes.turn;
    stands =
        closed_so closes.found (history_of first.opening q) p.number (close_reply (now_of closes.found)) stand.left
        stand.aloft stand.closed closes.grows
        (stands_so (stand_of first p) (now_of closes.found) stand closes.stands.loop is.stands);
    home = is.home;
    at_hand = not_at_hand (IsAtHand (history_of first.opening q)) flight (is.home home);
  }
