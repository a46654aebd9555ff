-- What a turn at the desk comes to.
use Rattle.std.proofs.Common.{◌≡◌, ℕ, ◌+◌, ◌<◌, Bool, true, false, List, [], ◌∷◌, ◌++◌}
use Rattle.std.proofs.Common.{length, Option, Some, None, refl, sym, ap, subst, ◌∙◌, arith}
use Rattle.std.specs.Prelude.{MatchOption}
use mathlib.Core.List.{IsPrefix}
use Rattle.cm_document.specs.declared.call.Call.{Call}
use Rattle.cm_desk.specs.Desk.{History, Grows, GrowsWhere, Waits, IsRight, hands_out, now_of, owed}
use Rattle.cm_model.specs.Machine.{step}
use Rattle.cm_model.specs.Sessions.{entries_by}
use Rattle.cm_model.specs.State.{State}
use Rattle.cm_model.specs.declared.cause.Outcome.{Outcome}
use Rattle.cm_model.specs.declared.data.CtlData.{CtlData}
use Rattle.cm_model.specs.declared.entry.Entry.{Entry}
use Rattle.cm_model.specs.declared.reply.Reply.{Reply}
use Rattle.cm_model.specs.declared.reply.Reply.TheVariants as answered
use Rattle.turn_lock.specs.declared.TheConstants.{TOO_MANY_ENTRIES}
use Rattle.turn_lock.specs.declared.kept.Kept.{Ghosts}
use Rattle.turn_lock.specs.declared.kept.Shown.{Shown}
use Rattle.turn_lock.specs.declared.kept.Shown.TheVariants.{Cycles, Tickets}
use Rattle.turn_lock.specs.declared.lock.TurnLock.{TurnLock}
use Rattle.turn_lock.specs.declared.pass.TurnPass.{TurnPass}
use Rattle.turn_lock.specs.declared.view.Known.{Known}
use Rattle.turn_lock.specs.declared.view.SeatView.{SeatView}
use Rattle.turn_lock.specs.Calls.Count.{AddsOne}
use Rattle.turn_lock.specs.Calls.Take.{Takes}
use Rattle.turn_lock.specs.Passes.{view, Becomes}
use Rattle.turn_lock.specs.Views.{known, counted, published, passed_on}
use Rattle.shared_desk.specs.Calls.Sessions.{Calls, LooksInVain}
use Rattle.shared_desk.specs.Passes.{history_of, IsAt}
use Rattle.shared_desk.specs.Turns.{Finds, TakesTurn, Stays}

-- what is known of both published numbers
numbers_are : (v w : SeatView Entry State) → v.cycles ≡ w.cycles → v.tickets ≡ w.tickets → (which : Shown)
    → (known which v).number ≡ (known which w).number
numbers_are v w cycles tickets Cycles = ap (λ (k : Known). k.number) cycles
numbers_are v w cycles tickets Tickets = ap (λ (k : Known). k.number) tickets

-- a history with this opening and these entries
same_history : (h : History) (opening : State) (made : List Entry) → h.opening ≡ opening → h.made ≡ made
    → h ≡ record { opening = opening; made = made }
same_history h opening made o m = λ i. record { opening = o i; made = m i }

same_some : (a b : State) → Some a ≡ Some b → a ≡ b
same_some a b same = cc

-- the desk that is found at a turn began as the pass's ground says
pub opening_found : (f : Option State) (a b : State) → f ≡ Some a → f ≡ Some b → a ≡ b
opening_found f a b is also = same_some a b (sym is ∙ also)

-- a right desk has few enough entries to be counted
pub few : (h : History) → IsRight h → length h.made < TOO_MANY_ENTRIES
few h right = omega (arith, right.few)

-- what is known of the published numbers
numbers_stay : (v w x : SeatView Entry State) → v ≡ w → w.cycles.number ≡ x.cycles.number
    → w.tickets.number ≡ x.tickets.number → (which : Shown) → (known which v).number ≡ (known which x).number
numbers_stay v w x is cycles tickets Cycles = ap (λ (u : SeatView Entry State). u.cycles.number) is ∙ cycles
numbers_stay v w x is cycles tickets Tickets = ap (λ (u : SeatView Entry State). u.tickets.number) is ∙ tickets

-- what an await came to
pub went_on : (b : Bool) (found now : History) (who : ℕ) (call : Call) (reply : Reply) → b ≡ true
    → GrowsWhere b found now who call reply → Grows found now who call reply
went_on b found now who call reply is grows =
    subst (λ (reached : Bool). GrowsWhere reached found now who call reply) is grows

pub waits_on : (b : Bool) (found now : History) (who : ℕ) (call : Call) (reply : Reply) → b ≡ false
    → GrowsWhere b found now who call reply → Waits found now who call
waits_on b found now who call reply is waits =
    subst (λ (reached : Bool). GrowsWhere reached found now who call reply) is waits

-- and what a ticket came to
pub was_told : (o : Option Outcome) (outcome : Outcome) (found now : History) (who : ℕ) (call : Call) → o ≡ Some outcome
    → MatchOption o (Waits found now who call) (λ (it : Outcome). Grows found now who call (answered.Outcome it))
    → Grows found now who call (answered.Outcome outcome)
was_told o outcome found now who call is grows =
    subst (λ (p : Option Outcome). MatchOption p (Waits found now who call)
    (λ (it : Outcome). Grows found now who call (answered.Outcome it))) is grows

pub not_told : (o : Option Outcome) (found now : History) (who : ℕ) (call : Call) → o ≡ None
    → MatchOption o (Waits found now who call) (λ (it : Outcome). Grows found now who call (answered.Outcome it))
    → Waits found now who call
not_told o found now who call is waits =
    subst (λ (p : Option Outcome). MatchOption p (Waits found now who call)
    (λ (it : Outcome). Grows found now who call (answered.Outcome it))) is waits

module _ {K : Type 0} {g : Ghosts K Entry State} where
  -- a desk that grew by an entry of this pass may be counted
  pub adds_one : (q : TurnPass K Entry State g) (found now : History) (kept : K) (who : ℕ) (call : Call) (reply : Reply)
      → g.entries kept ≡ now.made → Grows found now who call reply
      → (view q).seen ≡ found.made → g.caller (record { who = who; call = call; reply = reply }) ≡ q.number
      → IsRight now → AddsOne q kept
  adds_one q found now kept who call reply entries grows seen caller right = record {
    entry = record { who = who; call = call; reply = reply };
    list = entries ∙ grows.made
        ∙ ap (λ (made : List Entry). made ++ record { who = who; call = call; reply = reply } ∷ []) (sym seen);
    caller = caller;
    room = subst (λ (made : List Entry). length made < TOO_MANY_ENTRIES) (sym entries) (few now right);
  }

  -- what `take` tells of the pass that takes a turn
  pub turn_found : (lock : TurnLock K Entry State) (first : History) (p q : TurnPass K Entry State g) (kept : K)
      (found : History) → IsAt lock first p → Takes p q kept
      → g.entries kept ≡ found.made → g.footing kept ≡ found.opening
      → entries_by p.number found.made ≡ entries_by p.number (view p).seen → IsRight found
      → Finds lock first p q found
  turn_found lock first p q kept found at takes entries footing own right = record {
    right = right;
    opening = sym footing ∙ opening_found (view p).footing (g.footing kept) first.opening takes.ground_is at.ground_is;
    begins = subst (λ (made : List Entry). IsPrefix (view p).seen made) entries takes.begins;
    own = own;
    turn = (takes.same.1 ∙ at.ready.0, takes.holds);
    number = takes.same.0;
    seen = takes.seen ∙ entries;
    footing_is = takes.footing_stays ∙ takes.ground_is ∙ ap (λ (s : State). Some s) footing;
    owes_nothing = takes.owes_nothing;
    turns = takes.turns;
    loads = takes.loads;
    knows = numbers_are (view q) (view p) takes.cycles takes.tickets;
  }

module _ {K : Type 0} {g : Ghosts K Entry State} (lock : TurnLock K Entry State) (first : History) where
  -- a turn after which the pass has seen this history
  turn_taken : (p q r : TurnPass K Entry State g) (found now : History) (v : SeatView Entry State)
      → Finds lock first p q found → now.opening ≡ found.opening → IsRight now
      → Becomes q r (passed_on v) → v.seen ≡ now.made → v.turns ≡ (view q).turns → v.loads ≡ (view q).loads
      → v.footing ≡ (view q).footing
      → v.cycles.number ≡ (view q).cycles.number → v.tickets.number ≡ (view q).tickets.number
      → TakesTurn lock first p r found × (now ≡ history_of first.opening r)
  turn_taken p q r found now v finds opening right becomes seen turns loads footing cycles tickets =
      let is : view r ≡ passed_on v = becomes.1 in
      let now_is : now ≡ history_of first.opening r =
      same_history now first.opening (view r).seen (opening ∙ finds.opening)
      (sym seen ∙ sym (ap (λ (w : SeatView Entry State). w.seen) is)) in (
        record {
          opening = finds.opening;
          begins = finds.begins;
          own = finds.own;
          turns = ap (λ (w : SeatView Entry State). w.turns) is ∙ ap (λ n. n + 1) (turns ∙ finds.turns);
          loads = ap (λ (w : SeatView Entry State). w.loads) is ∙ loads ∙ finds.loads;
          knows = numbers_stay (view r) (passed_on v) (view p) is (cycles ∙ finds.knows Cycles)
              (tickets ∙ finds.knows Tickets);
          still = record {
            ready = (becomes.0.1 ∙ finds.turn.0, ap (λ (w : SeatView Entry State). w.holds) is);
            ground_is = ap (λ (w : SeatView Entry State). w.footing) is ∙ footing ∙ finds.footing_is
                ∙ ap (λ (s : State). Some s) finds.opening;
          };
          number = becomes.0.0 ∙ finds.number;
          right = subst IsRight now_is right;
        },
        now_is,
      )

  -- a turn at which an entry was made
  pub turn_made : (p q r : TurnPass K Entry State g) (found now : History) → Finds lock first p q found
      → now.opening ≡ found.opening → IsRight now
      → Becomes q r (passed_on (published Tickets (published Cycles (counted now.made (view q)))))
      → TakesTurn lock first p r found × (now ≡ history_of first.opening r)
  turn_made p q r found now finds opening right becomes =
      turn_taken p q r found now (published Tickets (published Cycles (counted now.made (view q)))) finds opening right
      becomes refl refl refl refl refl refl

  -- a turn at which none was
  turn_kept : (p q r : TurnPass K Entry State g) (found : History) → Finds lock first p q found
      → Becomes q r (passed_on (view q)) → TakesTurn lock first p r found × (found ≡ history_of first.opening r)
  turn_kept p q r found finds becomes =
      turn_taken p q r found found (view q) finds refl finds.right becomes finds.seen refl refl refl refl refl

  -- one entry more, of a session
  pub call_made : (p q r : TurnPass K Entry State g) (found now : History) (who : ℕ) (call : Call) (reply : Reply)
      (given : Option CtlData) → Finds lock first p q found
      → who ≡ q.number → Grows found now who call reply → IsRight now → given ≡ hands_out (now_of found) call reply
      → Becomes q r (passed_on (published Tickets (published Cycles (counted now.made (view q)))))
      → Calls lock first p r call reply given
  call_made p q r found now who call reply given finds number grows right handed becomes =
      let turn = turn_made p q r found now finds grows.opening right becomes in
      record {
        found = found;
        turn = turn.0;
        grows = subst (λ (h : History). Grows found h p.number call reply) turn.1
            (subst (λ (n : ℕ). Grows found now n call reply) (number ∙ finds.number) grows);
        handed = handed;
      }

  -- none
  pub none_made : (p q r : TurnPass K Entry State g) (found : History) → Finds lock first p q found
      → Becomes q r (passed_on (view q)) → Stays lock first p r
  none_made p q r found finds becomes =
      let turn = turn_kept p q r found finds becomes in
      record { found = found; turn = turn.0; none = sym turn.1 }

  -- none, as the call cannot be made yet
  pub looked : (p q r : TurnPass K Entry State g) (found : History) (who : ℕ) (call : Call) → Finds lock first p q found
      → who ≡ q.number → step (now_of found) who call ≡ None
      → Becomes q r (passed_on (view q)) → LooksInVain lock first p r call
  looked p q r found who call finds number waits becomes = record {
    stays = none_made p q r found finds becomes;
    not_yet =
        subst (λ (h : History). step (now_of h) p.number call ≡ None) (turn_kept p q r found finds becomes).1
        (subst (λ (n : ℕ). step (now_of found) n call ≡ None) (number ∙ finds.number) waits);
  }
