-- What is kept of each pass when the desk comes home.
use Rattle.std.proofs.Common.{◌≡◌, ℕ, ◌+◌, ◌<◌, ◌≤◌, true, List, All, Option, Some, sym, ap, subst, ◌∙◌, arith}
use mathlib.Core.List.{IsPrefix}
use Rattle.cm_desk.specs.Desk.{History, GoesOnWithoutLoop, IsRight, now_of}
use Rattle.cm_desk.proofs.LoopLemmas.{stands_alike}
use Rattle.cm_model.specs.Histories.{ends_in, decided_in}
use Rattle.cm_model.specs.Sessions.{entries_by}
use Rattle.cm_model.specs.State.{State}
use Rattle.cm_model.specs.declared.entry.Entry.{Entry}
use Rattle.turn_lock.specs.declared.kept.Kept.{Ghosts}
use Rattle.turn_lock.specs.declared.kept.Shown.{Shown}
use Rattle.turn_lock.specs.declared.kept.Shown.TheVariants.{Cycles, Tickets}
use Rattle.turn_lock.specs.declared.lock.TurnLock.{TurnLock}
use Rattle.turn_lock.specs.declared.pass.TurnPass.{TurnPass}
use Rattle.turn_lock.specs.Calls.Finish.{Finishes, Keeps}
use Rattle.turn_lock.specs.Entries.{of}
use Rattle.turn_lock.specs.Passes.{view, seats_of}
use Rattle.turn_lock.specs.Views.{known}
use Rattle.shared_desk.specs.Calls.Home.{ComesHome}
use Rattle.shared_desk.specs.Calls.Home.{HasAllOf}
use Rattle.shared_desk.specs.Passes.{history_of, IsLoopPass}
use Rattle.shared_desk.specs.Shown.{shown_of}
use Rattle.shared_desk.proofs.TurnLemmas.{opening_found}

-- who is below the number of seats is a session or the loop
no_later : (who seats sessions : ℕ) → who < seats → seats ≡ sessions + 1 → who ≤ sessions
no_later who seats sessions low are = omega (arith, low, are)

-- none was made by another
none_other : (caller : Entry → ℕ) (list made : List Entry) (seats sessions : ℕ) → list ≡ made
    → caller ≡ (λ (e : Entry). e.who) → seats ≡ sessions + 1 → All (λ (e : Entry). caller e < seats) list
    → All (λ (e : Entry). e.who ≤ sessions) made
none_other caller list made seats sessions is who are all =
    let low : All (λ (e : Entry). e.who < seats) made =
    subst (λ (es : List Entry). All (λ (e : Entry). e.who < seats) es) is
    (subst (λ (c : Entry → ℕ). All (λ (e : Entry). c e < seats) list) who all) in
    λ k d lt. no_later _ seats sessions (low k d lt) are

module _ {K : Type 0} {g : Ghosts K Entry State} where
  -- what the lock keeps of a pass, said of the history
  kept_of : (h : History) (list : List Entry) (p : TurnPass K Entry State g) → list ≡ h.made
      → g.caller ≡ (λ (e : Entry). e.who) → g.shown ≡ shown_of → Keeps list p → HasAllOf h p
  kept_of h list p is caller shown keeps =
      let own : entries_by p.number list ≡ entries_by p.number (view p).seen =
      subst (λ (c : Entry → ℕ). of c p.number list ≡ of c p.number (view p).seen) caller keeps.own in
      let knew : (which : Shown)
      → (known which (view p)).number ≤ shown_of which list =
      subst (λ (s : Shown → List Entry → ℕ). (which : Shown) → (known which (view p)).number ≤ s which list) shown
      keeps.knew in
      record {
        begins = subst (λ (made : List Entry). IsPrefix (view p).seen made) is keeps.begins;
        own = subst (λ (made : List Entry). entries_by p.number made ≡ entries_by p.number (view p).seen) is own;
        cycles = subst (λ (made : List Entry). (view p).cycles.number ≤ ends_in made) is (knew Cycles);
        tickets = subst (λ (made : List Entry). (view p).tickets.number ≤ decided_in made) is (knew Tickets);
      }

  pub comes_home : (lock : TurnLock K Entry State) (first : History) (p : TurnPass K Entry State g)
      (others : List (TurnPass K Entry State g)) (kept : K) (h : History)
      → g.entries kept ≡ h.made → g.footing kept ≡ h.opening → g.caller ≡ (λ (e : Entry). e.who) → g.shown ≡ shown_of
      → IsLoopPass lock first p → (now_of (history_of first.opening p)).closed ≡ true
      → seats_of lock ≡ first.opening.sessions + 1
      → Finishes lock p others kept → IsRight h → ComesHome first p others h
  comes_home lock first p others kept h entries footing caller shown is closed seats finishes right =
      let opening : h.opening ≡ first.opening =
      sym footing ∙ opening_found (view p).footing (g.footing kept) first.opening finishes.ground_is is.at.ground_is in
      let looping : HasAllOf h p = kept_of h (g.entries kept) p entries caller shown finishes.first_is in
      let stands = stands_alike (history_of first.opening p) h right.legal (record {
        opening = opening;
        begins = looping.begins;
        own = subst (λ (n : ℕ). entries_by n h.made ≡ entries_by n (view p).seen) is.loop looping.own;
      }) in
      record {
        opening = opening;
        right = right;
        looping_is = looping;
        passes_are = λ k d lt. kept_of h (g.entries kept) _ entries caller shown (finishes.others_are k d lt);
        no_others = none_other g.caller (g.entries kept) h.made (seats_of lock) first.opening.sessions entries caller
            seats finishes.no_others;
        closed = stands.loop.closed ∙ closed;
      }

-- the history of a book, with the boot of the desk that was shared
pub as_book : (h first : History) (entries : List Entry) → h.opening ≡ first.opening → entries ≡ h.made
    → h ≡ record { opening = first.opening; made = entries }
as_book h first entries opening made = λ i. record { opening = opening i; made = sym made i }
