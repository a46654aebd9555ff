-- A pass of a session stays one over each of its calls; those of a desk that is shared are known, and so is that they
-- are all when it comes home.
use Rattle.std.proofs.Common.{◌≡◌, ℕ, zero, suc, ◌+◌, ◌<◌, Bool, true, false, List, [], ◌∷◌}
use Rattle.std.proofs.Common.{◌++◌, map, length, get_or, All, Contains, Option, Some, None}
use Rattle.std.proofs.Common.{refl, sym, ap, subst, ◌∙◌, ◌⊎◌, inl, inr, ⊎_elim, arith}
use Rattle.std.specs.Prelude.{MatchOption}
use Rattle.std.proofs.lemmas.List.{get_or-map, length-map}
use Rattle.std.proofs.lemmas.List.Elements.{All-cons, All-tail}
use Rattle.cm_document.specs.declared.call.Call.{Call}
use Rattle.cm_document.specs.declared.description.Description.{Description}
use Rattle.cm_desk.specs.Desk.{History, IsAtHand, now_of}
use Rattle.cm_model.specs.State.{State, boot}
use Rattle.cm_model.specs.declared.blanks.Blanks.{Blanks}
use Rattle.cm_model.specs.declared.cause.Outcome.{Outcome}
use Rattle.cm_model.specs.declared.data.CtlData.{CtlData}
use Rattle.cm_model.specs.declared.entry.Entry.{Entry}
use Rattle.cm_model.specs.declared.reply.Reply.{Reply}
use Rattle.cm_model.specs.declared.reply.Reply.TheVariants as reply
use Rattle.rt_flight.specs.Flights.{FlightFacts}
use Rattle.turn_lock.specs.declared.kept.Kept.{Ghosts}
use Rattle.turn_lock.specs.declared.kept.Shown.{Shown}
use Rattle.turn_lock.specs.declared.lock.TurnLock.{TurnLock}
use Rattle.turn_lock.specs.declared.pass.TurnPass.{TurnPass}
use Rattle.turn_lock.specs.Calls.Finish.{AreAll}
use Rattle.turn_lock.specs.Calls.Make.{IsFresh}
use Rattle.turn_lock.specs.Passes.{view, seats_of, IsReady}
use Rattle.shared_desk.specs.Calls.Home.{AreHandedIn}
use Rattle.shared_desk.specs.Calls.Looks.{Looks}
use Rattle.shared_desk.specs.Calls.Looping.{stand_of}
use Rattle.shared_desk.specs.Calls.Sessions.{Calls, CallsWhere, LooksInVain}
use Rattle.shared_desk.specs.Calls.Share.{Shares}
use Rattle.shared_desk.specs.Passes.{history_of, IsSessionPass, IsLoopPass}
use Rattle.shared_desk.specs.Turns.{TakesTurn, Stays}
use Rattle.rows_desk.proofs.LoopPassLemmas.{not_at_hand}
use Rattle.rows_desk.specs.Shared.{StandsSo, IsLoopOf}
use Rattle.rows_desk.specs.declared.shared.stand.LoopStand.{LoopStand}

-- the last of all
last_is : {X : Type 0} (P : X → Type 0) (xs : List X) (x : X) → All P (xs ++ x ∷ []) → P x
last_is P [] x all = all 0 x (omega arith)
last_is P (y ∷ xs) x all = last_is P xs x (All-tail P y (xs ++ x ∷ []) all)

last_or_before : (n count : ℕ) → n < count + 1 → (n ≡ count) ⊎ (n < count)
last_or_before zero zero low = inl refl
last_or_before zero (suc count) low = inr (omega arith)
last_or_before (suc n) zero low = absurd (omega (arith, low))
last_or_before (suc n) (suc count) low =
    ⊎_elim (λ (is : n ≡ count). inl (ap suc is)) (λ (less : n < count). inr (omega (arith, less)))
    (last_or_before n count (omega (arith, low)))

module _ {K : Type 0} {g : Ghosts K Entry State} (lock : TurnLock K Entry State) (first : History) where
  -- after a turn it is the pass that it was,
  pub still_session : (p q : TurnPass K Entry State g) (found : History) → IsSessionPass lock first p
      → TakesTurn lock first p q found → IsSessionPass lock first q
  still_session p q found is turn =
      record { at = turn.still; session = subst (λ (n : ℕ). n < first.opening.sessions) (sym turn.number) is.session }

  -- and after a look
  pub looked_session : (which : Shown) (p q : TurnPass K Entry State g) (found : ℕ) → IsSessionPass lock first p
      → Looks which lock first p q found → IsSessionPass lock first q
  looked_session which p q found is looks =
      record {
        at = looks.still;
        session =
            subst (λ (n : ℕ). n < first.opening.sessions) (sym looks.becomes.0.0) is.session;
      }

  pub called_session : (p q : TurnPass K Entry State g) (call : Call) (r : Reply) (given : Option CtlData)
      → IsSessionPass lock first p → Calls lock first p q call r given → IsSessionPass lock first q
  called_session p q call r given is calls = still_session p q calls.found is calls.turn

  pub stays_session : (p q : TurnPass K Entry State g) → IsSessionPass lock first p → Stays lock first p q
      → IsSessionPass lock first q
  stays_session p q is stays = still_session p q stays.found is stays.turn

  pub told_session : (p q : TurnPass K Entry State g) (call : Call) (told : Option Outcome) → IsSessionPass lock first p
      → MatchOption told (LooksInVain lock first p q call) (λ o. Calls lock first p q call (reply.Outcome o) None)
      → IsSessionPass lock first q
  told_session p q call None is vain = stays_session p q is vain.stays
  told_session p q call (Some o) is calls = still_session p q calls.found is calls.turn

  pub reached_session : (p q : TurnPass K Entry State g) (call : Call) (reached : Bool) (r : Reply)
      → IsSessionPass lock first p → CallsWhere reached lock first p q call r → IsSessionPass lock first q
  reached_session p q call true r is calls = still_session p q calls.found is calls.turn
  reached_session p q call false r is vain = stays_session p q is vain.stays

  -- ---- A desk is shared

  -- there are as many sessions as it was booted with,
  pub session_count : (d : Description) (blanks : Blanks) (sessions : ℕ) (desk : History)
      (looping : TurnPass K Entry State g) (passes : List (TurnPass K Entry State g))
      → desk ≡ record { opening = boot d blanks sessions; made = [] } → Shares desk lock first looping passes
      → first.opening.sessions ≡ sessions
  session_count d blanks sessions desk looping passes booted shares =
      ap (λ (h : History). h.opening.sessions) (shares.first_is ∙ booted)

  stands_at_boot : (d : Description) (blanks : Blanks) (sessions : ℕ) (desk : History)
      (looping : TurnPass K Entry State g) (passes : List (TurnPass K Entry State g))
      → desk ≡ record { opening = boot d blanks sessions; made = [] } → Shares desk lock first looping passes
      → StandsSo (stand_of first looping) (record { left = d.cycles; aloft = false; closed = false })
  stands_at_boot d blanks sessions desk looping passes booted shares =
      let fresh = last_is (λ (p : TurnPass K Entry State g). IsFresh (Some desk.opening) (view p)) passes looping
      shares.made.passes_are.fresh in
      let is : first ≡ record { opening = boot d blanks sessions; made = [] } = shares.first_is ∙ booted in
      let seen : history_of first.opening looping ≡ record { opening = boot d blanks sessions; made = [] } =
      λ i. record { opening = (is i).opening; made = fresh.seen i } in
      subst (λ (h : History). StandsSo (now_of h) (record { left = d.cycles; aloft = false; closed = false }))
      (sym seen) (record { left = omega arith; aloft = refl; closed = refl })

  -- and the loop stands before its first cycle
  pub loop_at_boot : (d : Description) (blanks : Blanks) (sessions : ℕ) (desk : History)
      (looping : TurnPass K Entry State g) (passes : List (TurnPass K Entry State g))
      → desk ≡ record { opening = boot d blanks sessions; made = [] } → Shares desk lock first looping passes
      → (p : TurnPass K Entry State g) (stand : LoopStand) (flight : Option FlightFacts) → p ≡ looping
      → stand ≡ record { left = d.cycles; aloft = false; closed = false } → flight ≡ None
      → IsLoopOf lock first p stand flight
  loop_at_boot d blanks sessions desk looping passes booted shares p stand flight same so none =
      record {
        looping = subst (λ (q : TurnPass K Entry State g). IsLoopPass lock first q) (sym same) shares.looping_is;
        stands =
            subst (λ (q : TurnPass K Entry State g). StandsSo (stand_of first q) stand) (sym same)
            (subst (λ (st : LoopStand). StandsSo (stand_of first looping) st) (sym so)
            (stands_at_boot d blanks sessions desk looping passes booted shares));
        home = λ home. none;
        at_hand = not_at_hand (IsAtHand (history_of first.opening p)) flight none;
      }

  -- ---- It comes home

  numbered : (passes : List (TurnPass K Entry State g)) (p : TurnPass K Entry State g) (n : ℕ) → n < length passes
      → ((k : ℕ) (d : TurnPass K Entry State g) → k < length passes → (get_or passes k d).number ≡ k)
      → Contains (map (λ p. p.number) passes) n
  numbered passes p n low each =
      let number = λ (q : TurnPass K Entry State g). q.number in
      (n, omega (arith, length-map passes number, low), get_or-map number passes n p n low ∙ each n p low)

  all_of : (looping : TurnPass K Entry State g) (passes : List (TurnPass K Entry State g)) (count : ℕ)
      → seats_of lock ≡ count + 1 → looping.number ≡ count → length passes ≡ count
      → IsReady lock looping → All (IsReady lock) passes
      → ((k : ℕ) (d : TurnPass K Entry State g) → k < length passes → (get_or passes k d).number ≡ k)
      → AreAll lock (looping ∷ passes)
  all_of looping passes count seats loop long ready all each = record {
    ready = All-cons (IsReady lock) looping passes ready all;
    all = λ n low.
        ⊎_elim
        (λ (is : n ≡ count). (0, omega arith, loop ∙ sym is))
        (λ (less : n < count). let there = numbered passes looping n (omega (arith, less, long)) each in
        (suc there.0, omega (arith, there.1), there.2))
        (last_or_before n count (omega (arith, low, seats)));
  }

  -- the pass of a loop that has closed, with those of all sessions in order, are all
  pub are_handed_in : (p : TurnPass K Entry State g) (stand : LoopStand) (flight : Option FlightFacts)
      (passes shown : List (TurnPass K Entry State g)) (count : ℕ)
      → seats_of lock ≡ first.opening.sessions + 1 → first.opening.sessions ≡ count
      → IsLoopOf lock first p stand flight → stand.closed ≡ true → All (IsSessionPass lock first) passes
      → shown ≡ passes
      → (length shown ≡ count)
      × ((k : ℕ) (d : TurnPass K Entry State g) → k < length shown → (get_or shown k d).number ≡ k)
      → AreHandedIn lock first p passes
  are_handed_in p stand flight passes shown count seats sessions is closed each same shown_so =
      let numbers : (length passes ≡ count)
      × ((k : ℕ) (d : TurnPass K Entry State g) → k < length passes → (get_or passes k d).number ≡ k) =
      subst (λ (ps : List (TurnPass K Entry State g)). (length ps ≡ count)
      × ((k : ℕ) (d : TurnPass K Entry State g) → k < length ps → (get_or ps k d).number ≡ k)) same shown_so in
      record {
        looping_is = is.looping;
        all =
            all_of p passes count (seats ∙ ap (λ (n : ℕ). n + 1) sessions) (is.looping.loop ∙ sessions) numbers.0
            is.looping.at.ready
            (λ k d low. (each k d low).at.ready) numbers.1;
        closed = sym is.stands.closed ∙ closed;
      }
