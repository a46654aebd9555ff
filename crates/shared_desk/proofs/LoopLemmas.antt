-- Where the loop stands at a turn of its pass: as the pass has seen it, since no other pass makes an entry of the loop.
use Rattle.std.proofs.Common.{◌≡◌, ℕ, Bool, true, List, Option, Some, None, refl, sym, ap, subst, ◌∙◌}
use Rattle.std.specs.Prelude.{◌==◌, nat_lt, not, ◌&&◌, IsSomeAnd}
use Rattle.cm_document.specs.declared.call.Call.{Call}
use Rattle.cm_document.specs.declared.call.Call.TheVariants as call
use Rattle.cm_desk.specs.Desk.{History, Grows, IsRight, MayLand, StandsAlike, begun_of, now_of}
use Rattle.cm_desk.proofs.BegunLemmas.{lands_alike}
use Rattle.cm_desk.proofs.LoopLemmas.{stands_alike, lands_as_begun}
use Rattle.cm_model.specs.Boundary.{begin_reply, close_reply}
use Rattle.cm_model.specs.Cycle.{cycle}
use Rattle.cm_model.specs.Histories.{SameLoop}
use Rattle.cm_model.specs.Machine.{can_begin, can_close}
use Rattle.cm_model.specs.Sessions.{entries_by}
use Rattle.cm_model.specs.State.{State}
use Rattle.cm_model.specs.declared.entry.Entry.{Entry}
use Rattle.cm_model.specs.declared.reply.Reply.{Reply}
use Rattle.cm_model.specs.declared.reply.Reply.TheVariants as reply
use Rattle.rt_flight.specs.Flights.{FlightFacts, StaysComputed}
use Rattle.turn_lock.specs.declared.kept.Kept.{Ghosts}
use Rattle.turn_lock.specs.declared.lock.TurnLock.{TurnLock}
use Rattle.turn_lock.specs.declared.pass.TurnPass.{TurnPass}
use Rattle.turn_lock.specs.Passes.{view}
use Rattle.shared_desk.specs.Calls.Looping.{CanBeginHere, CanCloseHere, BeginsThere, LandsThere, ClosesThere, stand_of}
use Rattle.shared_desk.specs.Passes.{history_of, IsLoopPass}
use Rattle.shared_desk.specs.Turns.{Finds, TakesTurn}

-- a cycle can begin where the loop stands as where one can
begin_alike : (s t : State) → SameLoop s t → can_begin s s.ended ≡ true → can_begin t t.ended ≡ true
begin_alike s t loop can =
    let alike : can_begin t t.ended ≡ can_begin s s.ended =
    λ i. (((not (loop.aloft i) && not (loop.closed i)) && loop.ended i == loop.ended i)
    && nat_lt (loop.ended i) (loop.description i).cycles) in
    alike ∙ can

-- and it can close likewise
close_alike : (s t : State) → SameLoop s t → can_close s ≡ true → can_close t ≡ true
close_alike s t loop can =
    let alike : can_close t ≡ can_close s = λ i. not (loop.aloft i) && not (loop.closed i) in
    alike ∙ can

-- a state that is spoken of
some_state : (o : Option State) (P : State → Type 0) → IsSomeAnd o P → (s : State) × (o ≡ Some s)
some_state None P is = absurd is
some_state (Some s) P is = (s, refl)

-- an entry more, by what its parts are
made_so : (found now after : History) (who number : ℕ) (made told : Call) (r replied : Reply) → now ≡ after
    → who ≡ number → made ≡ told → r ≡ replied → Grows found now who made r
    → Grows found after number told replied
made_so found now after who number made told r replied to numbered called answered grows =
    subst (λ (h : History). Grows found h number told replied) to
    (subst (λ (n : ℕ). Grows found now n told replied) numbered
    (subst (λ (c : Call). Grows found now who c replied) called
    (subst (λ (a : Reply). Grows found now who made a) answered grows)))

module _ {K : Type 0} {g : Ghosts K Entry State} (lock : TurnLock K Entry State) (first : History) where
  -- at a turn of the loop's pass the loop stands as that has seen,
  pub stands_there : (p q : TurnPass K Entry State g) (found : History) → IsLoopPass lock first p
      → Finds lock first p q found → StandsAlike (history_of first.opening p) found
  stands_there p q found is finds =
      stands_alike (history_of first.opening p) found finds.right.legal (record {
        opening = finds.opening;
        begins = finds.begins;
        own = subst (λ (n : ℕ). entries_by n found.made ≡ entries_by n (view p).seen) is.loop finds.own;
      })

  -- and its number is that of the pass
  pub caller_there : (p q : TurnPass K Entry State g) (found : History) → IsLoopPass lock first p
      → Finds lock first p q found → found.opening.sessions ≡ q.number
  caller_there p q found is finds = ap (λ (s : State). s.sessions) finds.opening ∙ sym is.loop ∙ sym finds.number

  pub begins_where : (p : TurnPass K Entry State g) (found : History) → StandsAlike (history_of first.opening p) found
      → CanBeginHere lock first p → can_begin (now_of found) (now_of found).ended ≡ true
  begins_where p found stands can = begin_alike (stand_of first p) (now_of found) stands.loop can.can

  pub closes_where : (p : TurnPass K Entry State g) (found : History) → StandsAlike (history_of first.opening p) found
      → CanCloseHere lock first p → can_close (now_of found) ≡ true
  closes_where p found stands can = close_alike (stand_of first p) (now_of found) stands.loop can.can

  pub lands_where : (p : TurnPass K Entry State g) (found : History) (f : FlightFacts)
      → StandsAlike (history_of first.opening p) found → MayLand (history_of first.opening p) f → MayLand found f
  lands_where p found f stands lands = lands_alike (history_of first.opening p) found f stands.alike lands

  loops_number : (p : TurnPass K Entry State g) (found : History) → IsLoopPass lock first p
      → found.opening ≡ first.opening → found.opening.sessions ≡ p.number
  loops_number p found is opening = ap (λ (s : State). s.sessions) opening ∙ sym is.loop

  pub begun_there : (p r : TurnPass K Entry State g) (found now : History) → IsLoopPass lock first p
      → StandsAlike (history_of first.opening p) found
      → TakesTurn lock first p r found × (now ≡ history_of first.opening r)
      → Grows found now found.opening.sessions (call.Begin (now_of found).ended) (begin_reply (now_of found))
      → BeginsThere lock first p r
  begun_there p r found now is stands turn grows = record {
    found = found;
    turn = turn.0;
    stands = stands;
    grows =
        made_so found now (history_of first.opening r) found.opening.sessions p.number (call.Begin (now_of found).ended)
        (call.Begin (stand_of first p).ended) (begin_reply (now_of found)) (begin_reply (now_of found))
        turn.1 (loops_number p found is turn.0.opening) (ap (λ (n : ℕ). call.Begin n) stands.loop.ended) refl grows;
  }

  pub landed_there : (p r : TurnPass K Entry State g) (found now : History) (f : FlightFacts) → IsLoopPass lock first p
      → StandsAlike (history_of first.opening p) found → IsRight found
      → TakesTurn lock first p r found × (now ≡ history_of first.opening r) → MayLand (history_of first.opening p) f
      → Grows found now found.opening.sessions (call.End (now_of found).ended)
      (reply.Cycle (cycle (now_of found)).happened) → LandsThere lock first p r
  landed_there p r found now f is stands right turn lands grows =
      let begun = some_state (begun_of (history_of first.opening p)) (λ s. StaysComputed s f) lands in
      let tells = lands_as_begun found begun.0 right.legal (stands.alike.begun ∙ begun.1) in
      record {
        found = found;
        turn = turn.0;
        stands = stands;
        begun = begun.0;
        begun_is = begun.1;
        grows =
            made_so found now (history_of first.opening r) found.opening.sessions p.number
            (call.End (now_of found).ended) (call.End (stand_of first p).ended)
            (reply.Cycle (cycle (now_of found)).happened) (reply.Cycle (cycle begun.0).happened)
            turn.1 (loops_number p found is turn.0.opening) (ap (λ (n : ℕ). call.End n) stands.loop.ended)
            (ap (λ h. reply.Cycle h) tells) grows;
      }

  pub closed_there : (p r : TurnPass K Entry State g) (found now : History) → IsLoopPass lock first p
      → StandsAlike (history_of first.opening p) found
      → TakesTurn lock first p r found × (now ≡ history_of first.opening r)
      → Grows found now found.opening.sessions call.Close (close_reply (now_of found)) → ClosesThere lock first p r
  closed_there p r found now is stands turn grows = record {
    found = found;
    turn = turn.0;
    stands = stands;
    grows =
        made_so found now (history_of first.opening r) found.opening.sessions p.number call.Close call.Close
        (close_reply (now_of found)) (close_reply (now_of found))
        turn.1 (loops_number p found is turn.0.opening) refl refl grows;
  }
