-- What a turn makes of what the console over its pass tells.
use Rattle.std.proofs.Common.{◌≡◌, ℕ, ◌+◌, ◌^◌, ◌<◌, ◌≤◌, Bool, true, false, List, [], ◌∷◌, Option, Some}
use Rattle.std.proofs.Common.{None, Result, Ok, Err, IfOk, refl, sym, ap, subst, ◌∙◌, arith, le-add_right}
use Rattle.std.specs.Prelude.{◌-◌, min, MatchOption, OnOk, OnErr}
use Rattle.cm_document.specs.declared.call.Call.{Call}
use Rattle.cm_document.specs.declared.call.Call.TheVariants.{Told, Await, Begin, End, Close}
use Rattle.cm_desk.specs.Desk.{History, Grows, IsAtHand, IsOut, StandsAlike, now_of}
use Rattle.cm_desk.proofs.BegunLemmas.{out_at_hand}
use Rattle.cm_desk.proofs.LoopLemmas.{begins_where, closes_where, stands_alike}
use Rattle.cm_model.specs.Boundary.{begin_reply, close_reply}
use Rattle.cm_model.specs.Commit.{commit}
use Rattle.cm_model.specs.Cycle.{cycle, after_cycle}
use Rattle.cm_model.specs.Histories.{ends_in}
use Rattle.cm_model.specs.Machine.{LegalFrom, step}
use Rattle.cm_model.specs.Ports.{Console, IsSameConsole, Makes, MakesNone, MakesOpen, MakesWhere}
use Rattle.cm_model.specs.Ports.{IsNotYet, CanBegin, CanClose, MakesLoopCall, Begins, Lands, Closes}
use Rattle.cm_model.specs.Scheduled.{with_entry}
use Rattle.cm_model.specs.Sessions.{entries_by}
use Rattle.cm_model.specs.State.{State}
use Rattle.cm_model.specs.declared.cause.Outcome.{Outcome}
use Rattle.cm_model.specs.declared.data.CtlData.{CtlData}
use Rattle.cm_model.specs.declared.entry.Entry.{Entry}
use Rattle.cm_model.specs.declared.reply.Reply.{Reply}
use Rattle.cm_model.specs.declared.reply.Reply.TheVariants as reply
use Rattle.cm_model.proofs.CountLemmas.{ends_append, ends_are_the_loops}
use Rattle.cm_model.proofs.HistoryLemmas.{description_stays}
use Rattle.cm_model.proofs.StayLemmas.{boundary-SameLoop, step-IsStep}
use Rattle.cm_model.proofs.FollowedLemmas.{own_entry}
use Rattle.rt_flight.specs.Flights.{FlightFacts}
use Rattle.turn_lock.specs.declared.kept.Kept.{Ghosts}
use Rattle.turn_lock.specs.declared.kept.Shown.{Shown}
use Rattle.turn_lock.specs.declared.lock.TurnLock.{TurnLock}
use Rattle.turn_lock.specs.declared.pass.TurnPass.{TurnPass}
use Rattle.turn_lock.specs.declared.view.SeatView.{SeatView}
use Rattle.turn_lock.specs.Passes.{view, Becomes}
use Rattle.turn_lock.specs.Views.{loaded}
use Rattle.shared_desk.specs.Calls.Looping.{CanBeginHere, CanCloseHere, BeginsThere, LandsThere, ClosesThere, stand_of}
use Rattle.shared_desk.specs.Calls.Sessions.{Calls, CallsWhere, LooksInVain}
use Rattle.shared_desk.specs.Passes.{history_of, IsAt, IsSessionPass, IsLoopPass}
use Rattle.shared_desk.specs.Ports.{ground_of, console_of, loop_console_of, Watches}
use Rattle.shared_desk.specs.Turns.{TakesTurn, Stays}

-- ---- Numbers

one_of : (before now : ℕ) → now ≡ before + 1 → min (before + 1) (2 ^ 64 - 1) ≤ now
one_of before now rose = omega (arith, rose)

cancelled : (a b c n : ℕ) → c ≡ a + n → c ≡ b + n → a ≡ b
cancelled a b c n one other = omega (arith, one, other)

one_less : (cycles ended : ℕ) → cycles - (ended + 1) ≡ (cycles - ended) - 1
one_less cycles ended = omega arith

-- ---- What can be made again

-- a call that leaves the state can be made again
open_still : (s after : State) (who : ℕ) (call : Call) (r : Reply) → after ≡ s → step s who call ≡ Some (after, r)
    → step after who call ≡ None → ⊥
open_still s after who call r same stepped none =
    let not_there : step s who call ≡ None = subst (λ (t : State). step t who call ≡ None) same none in
    cc

module _ {K : Type 0} {g : Ghosts K Entry State} (lock : TurnLock K Entry State) (first : History) where
  -- ---- What stays

  -- a session's pass is one still,
  pub session_still : (p q : TurnPass K Entry State g) → IsSessionPass lock first p → IsAt lock first q
      → q.number ≡ p.number → IsSessionPass lock first q
  session_still p q is still number =
      record { at = still; session = subst (λ (n : ℕ). n < first.opening.sessions) (sym number) is.session }

  -- and the loop's is one still
  pub loop_still : (p q : TurnPass K Entry State g) → IsLoopPass lock first p → IsAt lock first q → q.number ≡ p.number
      → IsLoopPass lock first q
  loop_still p q is still number = record { at = still; loop = number ∙ is.loop }

  -- what no call changes
  pub ground_stays : (p q : TurnPass K Entry State g) → IsAt lock first p → IsAt lock first q → q.number ≡ p.number
      → ground_of first q ≡ ground_of first p
  ground_stays p q at still number =
      let same : q.seat.table_id ≡ p.seat.table_id = still.ready.0 ∙ sym at.ready.0 in
      λ i. record { lock = same i; who = number i; opening = first.opening }

  -- the console's own entries after one more,
  own_more : (p q : TurnPass K Entry State g) (found : History) (call : Call) (r : Reply)
      → TakesTurn lock first p q found → Grows found (history_of first.opening q) p.number call r
      → entries_by q.number (view q).seen ≡ with_entry (entries_by p.number (view p).seen) p.number call r
  own_more p q found call r turn grows =
      ap (λ (n : ℕ). entries_by n (view q).seen) turn.number
      ∙ ap (entries_by p.number) grows.made
      ∙ own_entry p.number found.made call r
      ∙ ap (λ (made : List Entry). with_entry made p.number call r) turn.own

  -- and after none
  own_same : (p q : TurnPass K Entry State g) (found : History) → TakesTurn lock first p q found
      → history_of first.opening q ≡ found
      → entries_by q.number (view q).seen ≡ entries_by p.number (view p).seen
  own_same p q found turn none =
      ap (λ (n : ℕ). entries_by n (view q).seen) turn.number ∙ ap (λ (h : History). entries_by p.number h.made) none
      ∙ turn.own

  -- ---- A session's console

  same_console : (p q : TurnPass K Entry State g) (found : History) → TakesTurn lock first p q found
      → IsSameConsole (console_of first p) (console_of first q)
  same_console p q found turn = record {
    who = turn.number;
    opening = refl;
    later = subst (λ (n : ℕ). (view p).turns ≤ n) (sym turn.turns) (le-add_right (view p).turns 1);
  }

  pub makes : (p q : TurnPass K Entry State g) (call : Call) (r : Reply) (given : Option CtlData)
      → Calls lock first p q call r given → Makes (console_of first p) (console_of first q) call r
  makes p q call r given calls = record {
    same = same_console p q calls.found calls.turn;
    made = own_more p q calls.found call r calls.turn calls.grows;
    behind = refl;
  }

  pub makes_none : (p q : TurnPass K Entry State g) → Stays lock first p q
      → MakesNone (console_of first p) (console_of first q)
  makes_none p q stays = record {
    same = same_console p q stays.found stays.turn;
    made = own_same p q stays.found stays.turn stays.none;
    behind = refl;
  }

  not_yet : (p q : TurnPass K Entry State g) (call : Call) → LooksInVain lock first p q call
      → IsNotYet (console_of first p) (console_of first q) call
  not_yet p q call vain = record {
    none = makes_none p q vain.stays;
    rose = one_of (view p).turns (view q).turns vain.stays.turn.turns;
    behind = tt;
    seen = vain.not_yet;
  }

  -- who was told may be told again, and what was reached is reached still
  told_open : (p q : TurnPass K Entry State g) (ticket : ℕ) (o : Outcome)
      → Calls lock first p q (Told ticket) (reply.Outcome o) None
      → MakesOpen (console_of first p) (console_of first q) (Told ticket) (reply.Outcome o)
  told_open p q ticket o calls =
      let s = now_of calls.found in
      let next = (step-IsStep s p.number (Told ticket) (now_of (history_of first.opening q), reply.Outcome o)
      calls.grows.stepped).next in
      record {
        made = makes p q (Told ticket) (reply.Outcome o) None calls;
        seen = open_still s (now_of (history_of first.opening q)) p.number (Told ticket) (reply.Outcome o) next
            calls.grows.stepped;
      }

  await_open : (p q : TurnPass K Entry State g) (cycles : ℕ) → Calls lock first p q (Await cycles) reply.Done None
      → MakesOpen (console_of first p) (console_of first q) (Await cycles) reply.Done
  await_open p q cycles calls =
      let s = now_of calls.found in
      let next = (step-IsStep s p.number (Await cycles) (now_of (history_of first.opening q), reply.Done)
      calls.grows.stepped).next in
      record {
        made = makes p q (Await cycles) reply.Done None calls;
        seen = open_still s (now_of (history_of first.opening q)) p.number (Await cycles) reply.Done next
            calls.grows.stepped;
      }

  -- ---- Looks

  pub not_looked : (p : TurnPass K Entry State g) → IsAt lock first p → Watches lock first p p
  not_looked p at = record { still = at; number = refl; seen = refl; turns = refl }

  -- one look more
  pub looked_on : (p q r : TurnPass K Entry State g) (which : Shown) (n : ℕ) → Watches lock first p q
      → Becomes q r (loaded which n (view q)) → Watches lock first p r
  looked_on p q r which n watches becomes =
      let is : view r ≡ loaded which n (view q) = becomes.1 in
      record {
        still = record {
          ready = (
            becomes.0.1 ∙ watches.still.ready.0,
            ap (λ (v : SeatView Entry State). v.holds) is
                ∙ watches.still.ready.1,
          );
          ground_is = ap (λ (v : SeatView Entry State). v.footing) is ∙ watches.still.ground_is;
        };
        number = becomes.0.0 ∙ watches.number;
        seen = ap (λ (v : SeatView Entry State). v.seen) is ∙ watches.seen;
        turns = ap (λ (v : SeatView Entry State). v.turns) is ∙ watches.turns;
      }

  -- looks after looks
  pub looked_again : (p m q : TurnPass K Entry State g) → Watches lock first p m → Watches lock first m q
      → Watches lock first p q
  looked_again p m q first_looks more =
      record {
        still = more.still;
        number = more.number ∙ first_looks.number;
        seen =
            more.seen ∙ first_looks.seen;
        turns = more.turns ∙ first_looks.turns;
      }

  -- a session's pass is one still
  pub session_watched : (p m : TurnPass K Entry State g) → IsSessionPass lock first p → Watches lock first p m
      → IsSessionPass lock first m
  session_watched p m is watches = session_still p m is watches.still watches.number

  -- looks alone change nothing of what the console tells
  pub watched : (p m : TurnPass K Entry State g) → Watches lock first p m → console_of first m ≡ console_of first p
  watched p m watches = λ i. record {
    who = watches.number i;
    opening = first.opening;
    made = entries_by (watches.number i) (watches.seen i);
    waited = watches.turns i;
    whole = None;
    seen = Some (watches.seen i);
  }

  -- what became of a ticket, after looks
  pub told_there : (p m q : TurnPass K Entry State g) (ticket : ℕ) (outcome : Option Outcome) → Watches lock first p m
      → MatchOption outcome (LooksInVain lock first m q (Told ticket))
      (λ o. Calls lock first m q (Told ticket) (reply.Outcome o) None)
      → MatchOption outcome (IsNotYet (console_of first p) (console_of first q) (Told ticket))
      (λ o. MakesOpen (console_of first p) (console_of first q) (Told ticket) (reply.Outcome o))
  told_there p m q ticket None watches vain =
      subst (λ (c : Console). IsNotYet c (console_of first q) (Told ticket)) (watched p m watches)
      (not_yet m q (Told ticket) vain)
  told_there p m q ticket (Some o) watches calls =
      subst (λ (c : Console). MakesOpen c (console_of first q) (Told ticket) (reply.Outcome o)) (watched p m watches)
      (told_open m q ticket o calls)

  -- and of an await
  pub reached_there : (p m q : TurnPass K Entry State g) (cycles : ℕ) (reached : Bool) → Watches lock first p m
      → CallsWhere reached lock first m q (Await cycles) reply.Done
      → MakesWhere reached (console_of first p) (console_of first q) (Await cycles) reply.Done
  reached_there p m q cycles true watches calls =
      subst (λ (c : Console). MakesOpen c (console_of first q) (Await cycles) reply.Done) (watched p m watches)
      (await_open m q cycles calls)
  reached_there p m q cycles false watches vain =
      subst (λ (c : Console). IsNotYet c (console_of first q) (Await cycles)) (watched p m watches)
      (not_yet m q (Await cycles) vain)

  -- and where memory ran out
  pub none_there : (p m q : TurnPass K Entry State g) → Watches lock first p m → Stays lock first m q
      → MakesNone (console_of first p) (console_of first q)
  none_there p m q watches stays =
      subst (λ (c : Console). MakesNone c (console_of first q)) (watched p m watches) (makes_none m q stays)

  -- the answers of a session's calls, after looks
  pub told_so : {E : Type 0} (p m q : TurnPass K Entry State g) (ticket : ℕ) (r : Result (Option Outcome) E)
      → Watches lock first p m
      → IfOk r (λ outcome. MatchOption outcome (LooksInVain lock first m q (Told ticket))
      (λ o. Calls lock first m q (Told ticket) (reply.Outcome o) None))
      → IfOk r (λ outcome. MatchOption outcome (IsNotYet (console_of first p) (console_of first q) (Told ticket))
      (λ o. MakesOpen (console_of first p) (console_of first q) (Told ticket) (reply.Outcome o)))
  told_so p m q ticket (Ok outcome) watches made = told_there p m q ticket outcome watches made
  told_so p m q ticket (Err fault) watches made = tt

  pub reached_so : {E : Type 0} (p m q : TurnPass K Entry State g) (cycles : ℕ) (r : Result Bool E)
      → Watches lock first p m
      → IfOk r (λ reached. CallsWhere reached lock first m q (Await cycles) reply.Done)
      → IfOk r (λ reached. MakesWhere reached (console_of first p) (console_of first q) (Await cycles) reply.Done)
  reached_so p m q cycles (Ok reached) watches made = reached_there p m q cycles reached watches made
  reached_so p m q cycles (Err fault) watches made = tt

  pub none_so : {A E : Type 0} (p m q : TurnPass K Entry State g) (r : Result A E) → Watches lock first p m
      → OnErr r (Stays lock first m q) → OnErr r (MakesNone (console_of first p) (console_of first q))
  none_so p m q (Ok answer) watches kept = tt
  none_so p m q (Err fault) watches kept = none_there p m q watches kept

  -- ---- The loop's console

  pub can_begin_here : (p : TurnPass K Entry State g) → IsLoopPass lock first p → CanBegin (loop_console_of first p)
      → CanBeginHere lock first p
  can_begin_here p is can = record {
    looping = is;
    can =
        rw (description_stays (view p).seen first.opening)
        (begins_where (stand_of first p).aloft (stand_of first p).closed (stand_of first p).ended
        first.opening.description.cycles can.home can.not_closed can.left);
  }

  pub can_close_here : (p : TurnPass K Entry State g) → IsLoopPass lock first p → CanClose (loop_console_of first p)
      → CanCloseHere lock first p
  can_close_here p is can =
      record {
        looping = is;
        can =
            closes_where (stand_of first p).aloft (stand_of first p).closed can.home can.not_closed;
      }

  -- where no entry was made the console tells what it told
  pub loop_stays : (p q : TurnPass K Entry State g) → IsLoopPass lock first p → Stays lock first p q
      → loop_console_of first q ≡ loop_console_of first p
  loop_stays p q is stays =
      let turn = stays.turn in
      let stands : StandsAlike (history_of first.opening p) stays.found =
      stands_alike (history_of first.opening p) stays.found
      (subst (λ (h : History). LegalFrom h.opening h.made) stays.none turn.right.legal) (record {
        opening = turn.opening;
        begins = turn.begins;
        own = subst (λ (n : ℕ). entries_by n stays.found.made ≡ entries_by n (view p).seen) is.loop turn.own;
      }) in
      let now_is : stand_of first q ≡ now_of stays.found = ap now_of stays.none in
      let own = own_same p q stays.found turn stays.none in
      let ended : (stand_of first q).ended ≡ (stand_of first p).ended =
      ap (λ (s : State). s.ended) now_is ∙ stands.loop.ended in
      let aloft : (stand_of first q).aloft ≡ (stand_of first p).aloft =
      ap (λ (s : State). s.aloft) now_is ∙ stands.loop.aloft in
      let closed : (stand_of first q).closed ≡ (stand_of first p).closed =
      ap (λ (s : State). s.closed) now_is ∙ stands.loop.closed in
      λ i. record {
        who = turn.number i;
        made = own i;
        left = first.opening.description.cycles - ended i;
        out = aloft i;
        closed = closed i;
      }

  -- as many cycles have ended as the console has ends, since the pass has taken a turn at which the loop made this
  -- entry
  ended_own : (p q : TurnPass K Entry State g) (found : History) (call : Call) (r : Reply) → IsLoopPass lock first p
      → TakesTurn lock first p q found
      → Grows found (history_of first.opening q) p.number call r
      → (stand_of first q).ended
      ≡ (stand_of first p).ended + ends_in (record { who = p.number; call = call; reply = r } ∷ [])
      → (stand_of first p).ended ≡ ends_in (entries_by p.number (view p).seen)
  ended_own p q found call r is turn grows adds =
      let e : Entry = record { who = p.number; call = call; reply = r } in
      let own = entries_by p.number (view p).seen in
      let loops : ends_in (entries_by p.number (view q).seen) ≡ ends_in (view q).seen =
      ends_are_the_loops (view q).seen first.opening p.number (sym is.loop) turn.right.legal in
      let more : entries_by p.number (view q).seen ≡ with_entry own p.number call r =
      sym (ap (λ (n : ℕ). entries_by n (view q).seen) turn.number) ∙ own_more p q found call r turn grows in
      let counted : (stand_of first q).ended ≡ ends_in own + ends_in (e ∷ []) =
      turn.right.ended ∙ sym loops ∙ ap ends_in more ∙ ends_append own (e ∷ []) in
      cancelled (stand_of first p).ended (ends_in own) (stand_of first q).ended (ends_in (e ∷ [])) adds counted

  loop_call : (p q : TurnPass K Entry State g) (found : History) (call told : Call) (r : Reply) → call ≡ told
      → TakesTurn lock first p q found → Grows found (history_of first.opening q) p.number call r
      → MakesLoopCall (loop_console_of first p) (loop_console_of first q) told
  loop_call p q found call told r same turn grows = record {
    r = r;
    made = own_more p q found call r turn grows
        ∙ ap (λ (c : Call). with_entry (entries_by p.number (view p).seen) p.number c r) same;
    who = turn.number;
  }

  pub begins_here : (p q : TurnPass K Entry State g) → IsLoopPass lock first p → BeginsThere lock first p q
      → Begins (loop_console_of first p) (loop_console_of first q)
  begins_here p q is there =
      let s = now_of there.found in
      let call = Begin (stand_of first p).ended in
      let next = (step-IsStep s p.number call (stand_of first q, begin_reply s) there.grows.stepped).next in
      let loop = boundary-SameLoop s in
      let ended : (stand_of first q).ended ≡ (stand_of first p).ended =
      ap (λ (t : State). t.ended) next ∙ loop.ended ∙ there.stands.loop.ended in
      let own = ended_own p q there.found call (begin_reply s) is there.turn there.grows
      (ended ∙ none_more (stand_of first p).ended) in
      record {
        made = loop_call p q there.found call (Begin (ends_in (entries_by p.number (view p).seen))) (begin_reply s)
            (ap (λ (n : ℕ). Begin n) own) there.turn there.grows;
        left = ap (λ (n : ℕ). first.opening.description.cycles - n) ended;
        out = ap (λ (t : State). t.aloft) next;
        closed = ap (λ (t : State). t.closed) next ∙ loop.closed ∙ there.stands.loop.closed;
      }
    where
      none_more : (n : ℕ) → n ≡ n + 0
      none_more n = omega arith

  pub lands_here : (p q : TurnPass K Entry State g) → IsLoopPass lock first p → LandsThere lock first p q
      → Lands (loop_console_of first p) (loop_console_of first q)
  unfolding after_cycle commit
  lands_here p q is there =
      let s = now_of there.found in
      let r = reply.Cycle (cycle there.begun).happened in
      let call = End (stand_of first p).ended in
      let next = (step-IsStep s p.number call (stand_of first q, r) there.grows.stepped).next in
      let ended : (stand_of first q).ended ≡ (stand_of first p).ended + 1 =
      ap (λ (t : State). t.ended) next ∙ ap (λ (n : ℕ). n + 1) there.stands.loop.ended in
      let own = ended_own p q there.found call r is there.turn there.grows ended in
      record {
        made = loop_call p q there.found call (End (ends_in (entries_by p.number (view p).seen))) r
            (ap (λ (n : ℕ). End n) own) there.turn there.grows;
        left = ap (λ (n : ℕ). first.opening.description.cycles - n) ended
            ∙ one_less first.opening.description.cycles (stand_of first p).ended;
        out = ap (λ (t : State). t.aloft) next;
        closed = ap (λ (t : State). t.closed) next ∙ there.stands.loop.closed;
      }

  pub closes_here : (p q : TurnPass K Entry State g) → ClosesThere lock first p q
      → Closes (loop_console_of first p) (loop_console_of first q)
  closes_here p q there =
      let s = now_of there.found in
      let next = (step-IsStep s p.number Close (stand_of first q, close_reply s) there.grows.stepped).next in
      let ended : (stand_of first q).ended ≡ (stand_of first p).ended =
      ap (λ (t : State). t.ended) next ∙ there.stands.loop.ended in
      record {
        made = loop_call p q there.found Close Close (close_reply s) refl there.turn there.grows;
        left = ap (λ (n : ℕ). first.opening.description.cycles - n) ended;
        out = ap (λ (t : State). t.aloft) next ∙ there.stands.loop.aloft;
        closed = ap (λ (t : State). t.closed) next;
      }

  -- the answers of a begin
  pub begun_so : {E : Type 0} (p q : TurnPass K Entry State g) (r : Result FlightFacts E) → IsLoopPass lock first p
      → OnOk r (BeginsThere lock first p q) → IfOk r (IsOut (history_of first.opening q))
      → IfOk r (λ flight. Begins (loop_console_of first p) (loop_console_of first q)
      × IsAtHand (history_of first.opening q) flight × (flight.outcome ≡ None))
  begun_so p q (Ok flight) is there out =
      (begins_here p q is there, out_at_hand (history_of first.opening q) flight out, out.not_yet.1)
  begun_so p q (Err fault) is there out = tt

  pub stays_so : {A E : Type 0} (p q : TurnPass K Entry State g) (r : Result A E) → IsLoopPass lock first p
      → OnErr r (Stays lock first p q) → OnErr r (loop_console_of first q ≡ loop_console_of first p)
  stays_so p q (Ok answer) is kept = tt
  stays_so p q (Err fault) is kept = loop_stays p q is kept
