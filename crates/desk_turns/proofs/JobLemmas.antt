-- What a call of the loop makes of a job.
use Rattle.std.proofs.Common.{◌≡◌, ℕ, true, false, List, Option, Some, None, refl, sym, ap, subst, ◌∙◌, arith}
use Rattle.std.specs.Prelude.{map, not, ◌==◌, ◌&&◌, nat_lt, is_some, IfSome, IsSomeAnd}
use Rattle.std.proofs.lemmas.Bool.{and_parts, true≢false}
use Rattle.std.proofs.lemmas.Bool.Decides.{nat_tests}
use Rattle.cm_document.specs.declared.call.Call.{Call}
use Rattle.cm_document.specs.declared.call.Call.TheVariants.{Begin, End, Close}
use Rattle.cm_desk.proofs.BeginLemmas.{loop_itself}
use Rattle.cm_model.specs.Machine.{can_begin, can_end, can_close, step}
use Rattle.cm_model.specs.Scheduled.{Session, Progress, with_entry, looped}
use Rattle.cm_model.specs.State.{State}
use Rattle.cm_model.specs.declared.entry.Entry.{Entry}
use Rattle.cm_model.specs.declared.reply.Reply.{Reply}
use Rattle.cm_desk.specs.Desk.{History, now_of, Grows, IsOut, IsAtHand, MayLand, IsAloftAlike}
use Rattle.cm_desk.proofs.BegunLemmas.{out_at_hand}
use Rattle.cm_storage.specs.Happened.{Happened}
use Rattle.rt_flight.specs.Flights.{FlightFacts, StaysAloft, StaysComputed}
use Rattle.rt_flight.specs.Progress.{Progress as Way}
use Rattle.console_session.specs.Sessions.{left_of}
use Rattle.desk_turns.specs.Jobs.{HasFlight, IsComputedOnce, JobFacts, progress_of, GoesOn, loop_call, looped_on}
use Rattle.cm_model.proofs.HistoryLemmas.{sessions_stay}

-- ---- The loop

looped_some : (call : Call) (p : Progress) (reached : State × Reply) → step p.state p.state.sessions call ≡ Some reached
    → looped call p ≡ record p { state = reached.0; made = with_entry p.made p.state.sessions call reached.1 }
unfolding looped
looped_some call p reached stepped = rw (stepped, looped) refl

looped_none : (call : Call) (p : Progress) → step p.state p.state.sessions call ≡ None → looped call p ≡ p
unfolding looped
looped_none call p none = rw (none, looped) refl

same_progress : (s : State) (made made' : List Entry) (xs xs' : List Session) → made ≡ made' → xs ≡ xs'
    → ◌≡◌ {A = Progress} (record { state = s; made = made; sessions = xs })
    (record { state = s; made = made'; sessions = xs' })
same_progress s made made' xs xs' e f = rw (e, f) refl

-- the loop made its call
pub loop_made : (call : Call) (old new : JobFacts) (r : Reply)
    → Grows old.desk new.desk old.desk.opening.sessions call r → new.sessions ≡ old.sessions
    → GoesOn (looped call) old new
loop_made call old new r grows same =
    let who : (now_of old.desk).sessions ≡ old.desk.opening.sessions = sessions_stay old.desk.made old.desk.opening in
    let stepped : step (now_of old.desk) (now_of old.desk).sessions call ≡ Some (now_of new.desk, r) =
    rw who grows.stepped in
    record {
      opening = grows.opening;
      moved = same_progress (now_of new.desk) new.desk.made (with_entry old.desk.made (now_of old.desk).sessions call r)
          (map left_of new.sessions) (map left_of old.sessions) (rw who grows.made) (ap (map left_of) same)
          ∙ sym (looped_some call (progress_of old) (now_of new.desk, r) stepped);
    }

-- it cannot make it
loop_waits : (call : Call) (j : JobFacts) → step (now_of j.desk) (now_of j.desk).sessions call ≡ None
    → GoesOn (looped call) j j
loop_waits call j none = record { opening = refl; moved = sym (looped_none call (progress_of j) none) }

pub begin_waits : (n : ℕ) (j : JobFacts) → can_begin (now_of j.desk) n ≡ false → GoesOn (looped (Begin n)) j j
unfolding step
begin_waits n j can = loop_waits (Begin n) j (rw (loop_itself (now_of j.desk).sessions, can) refl)

pub end_waits : (n : ℕ) (j : JobFacts) → can_end (now_of j.desk) n ≡ false → GoesOn (looped (End n)) j j
unfolding step
end_waits n j can = loop_waits (End n) j (rw (loop_itself (now_of j.desk).sessions, can) refl)

pub close_waits : (j : JobFacts) → can_close (now_of j.desk) ≡ false → GoesOn (looped Close) j j
unfolding step
close_waits j can = loop_waits Close j (rw (loop_itself (now_of j.desk).sessions, can) refl)

same_number : (x n : ℕ) → (x == n) ≡ true → x ≡ n
same_number x n same = grind (arith, nat_tests)

-- the cycle that can begin, and the one that can end, has the number of those that ended
pub begin_number : (s : State) (n : ℕ) → can_begin s n ≡ true → s.ended ≡ n
begin_number s n can =
    same_number s.ended n
    (and_parts (not s.aloft && not s.closed) (s.ended == n)
    (and_parts ((not s.aloft && not s.closed) && s.ended == n) (nat_lt n s.description.cycles) can).0).1

pub end_number : (s : State) (n : ℕ) → can_end s n ≡ true → s.ended ≡ n
end_number s n can = same_number s.ended n (and_parts s.aloft (s.ended == n) can).1

-- ---- The flight

-- the flight that began is at hand
pub flight_out : (h : History) (o : Option FlightFacts) (f : FlightFacts) → o ≡ Some f → IsOut h f
    → (now_of h).aloft ≡ true → HasFlight h o
flight_out h o f same out up =
    subst (λ (k : Option FlightFacts). HasFlight h k) (sym same)
    (record { there = sym up; at_hand = out_at_hand h f out })

-- where a cycle is aloft there is one,
pub flight_there : (h : History) (o : Option FlightFacts) → HasFlight h o → o ≡ None → (now_of h).aloft ≡ true → ⊥
flight_there h None is none up = let both : false ≡ true = is.there ∙ up in cc
flight_there h (Some f) is none up = cc

-- which may land once it is computed,
pub flight_lands : (h : History) (o : Option FlightFacts) (f f' : FlightFacts) → HasFlight h o → o ≡ Some f
    → IsComputedOnce f f' → MayLand h f'
flight_lands h o f f' is same once =
    let hand = subst (λ (k : Option FlightFacts). IfSome k (IsAtHand h)) same is.at_hand in
    (once.at_hand h hand).after (once.computed h hand)

-- if it was started it is computed
pub started_computed : (h : History) (f : FlightFacts) → IsAtHand h f → is_some f.progress ≡ true
    → is_some f.outcome ≡ true
started_computed h f hand started = by_end f.outcome refl
  where
    by_end : (o : Option Happened) → f.outcome ≡ o → is_some f.outcome ≡ true
    by_end (Some told) is = ap (λ (o : Option Happened). is_some o) is
    by_end None is =
        let none = ap (λ (o : Option Way). is_some o) (hand.before is).not_yet.0 in
        absurd (true≢false (sym started ∙ none))

-- and none is left once it has
pub flight_gone : (h : History) (o : Option FlightFacts) → o ≡ None → (now_of h).aloft ≡ false → HasFlight h o
flight_gone h o none down =
    subst (λ (k : Option FlightFacts). HasFlight h k) (sym none) (record { there = sym down; at_hand = tt })

-- the flight stays that of the cycle that is aloft
pub flight_alike : (old new : History) (o : Option FlightFacts) → IsAloftAlike old new → HasFlight old o
    → HasFlight new o
flight_alike old new o alike is = record { there = is.there ∙ sym alike.aloft; at_hand = each o is.at_hand }
  where
    each : (o : Option FlightFacts) → IfSome o (IsAtHand old) → IfSome o (IsAtHand new)
    each None hand = tt
    each (Some f) hand = record {
      before = λ none. record {
        aloft = subst (λ (b : Option State). IsSomeAnd b (λ begun. StaysAloft begun f)) (sym alike.begun)
            (hand.before none).aloft;
        not_yet = (hand.before none).not_yet;
      };
      after = λ some. subst (λ (b : Option State). IsSomeAnd b (λ begun. StaysComputed begun f)) (sym alike.begun)
          (hand.after some);
    }

-- where no cycle is aloft there is none
pub none_flies : (old new : History) (o : Option FlightFacts) → HasFlight old o → (now_of old).aloft ≡ false
    → (now_of new).aloft ≡ false → HasFlight new o
none_flies old new o is before after =
    record { there = is.there ∙ before ∙ sym after; at_hand = each o (is.there ∙ before) }
  where
    each : (o : Option FlightFacts) → is_some o ≡ false → IfSome o (IsAtHand new)
    each None none = tt
    each (Some f) none = cc

-- ---- The loop's next call

-- the loop goes on by its next call
pub goes_on : (call : Call) (old new : JobFacts) → loop_call (now_of old.desk) ≡ call → GoesOn (looped call) old new
    → GoesOn looped_on old new
goes_on call old new is goes =
    record { opening = goes.opening; moved = goes.moved ∙ ap (λ (c : Call). looped c (progress_of old)) (sym is) }

-- which is the end of the cycle that is aloft,
pub end_next : (s : State) → s.aloft ≡ true → loop_call s ≡ End s.ended
end_next s up = rw up refl

-- else the begin of the next one,
pub begin_next : (s : State) → s.aloft ≡ false → nat_lt s.ended s.description.cycles ≡ true
    → loop_call s ≡ Begin s.ended
begin_next s down more = rw (down, more) refl

-- and behind the last the close
pub close_next : (s : State) → s.aloft ≡ false → nat_lt s.ended s.description.cycles ≡ false → loop_call s ≡ Close
close_next s down none = rw (down, none) refl
