-- Worked rows: what two passes know, step by step, where an entry is its caller's number. And that the rule keeps them
-- apart.
use Rattle.std.proofs.Common.{◌≡◌, ℕ, true, false, [], ◌∷◌, Some, None, refl}
use mathlib.Core.Logic.{dite}
use mathlib.Core.Option.{some}
use native.Mathlib.Decide.{ℕ_discrete}
use lib.ListN.{get_elem?}
use Rattle.atomic_table.specs.Table.{State}
use Rattle.turn_lock.specs.declared.kept.Kept.{Ghosts}
use Rattle.turn_lock.specs.declared.kept.Shown.TheVariants.{Cycles, Tickets}
use Rattle.turn_lock.specs.declared.table.Spot.{Spot}
use Rattle.turn_lock.specs.declared.view.SeatView.{SeatView}
use Rattle.turn_lock.specs.Entries.{of}
use Rattle.turn_lock.specs.Rule.{atomic_words, Ruled}
use Rattle.turn_lock.specs.Views.{first_view, dealer, dealt, waiting, at_turn}
use Rattle.turn_lock.specs.Views.{counted, published, loaded, passed_on, joined}

-- a pass that was just made, of this number
fresh : ℕ → SeatView ℕ ℕ
fresh number = record {
  alive = true;
  number = None;
  holds = false;
  turns = 0;
  loads = 0;
  seen = [];
  footing = Some 42;
  mine = number ∷ [];
  given = None;
  cycles = record { number = 0; owes = false };
  tickets = record { number = 0; owes = false };
  absorbed = [];
}

-- the first pass gives number 1 to a second one, and has given two
second_pass : dealt (first_view 42) ≡ fresh 1
unfolding fresh
second_pass = refl

two_given : dealer {E = ℕ} (first_view 42) ≡ record (fresh 0) { given = Some 2 }
unfolding fresh
two_given = refl

-- it makes an entry at its first turn, with ticket 7, after pass 0 made two: it has seen three
a_turn : passed_on
    (published Tickets (published Cycles (counted (0 ∷ 0 ∷ 1 ∷ []) (at_turn (0 ∷ 0 ∷ []) (waiting 7 (fresh 1))))))
    ≡ record (fresh 1) { turns = 1; seen = 0 ∷ 0 ∷ 1 ∷ [] }
unfolding fresh
a_turn = refl

-- before it has published, it owes both, and holds ticket 7
a_debt : published Cycles (counted (0 ∷ 1 ∷ []) (at_turn (0 ∷ []) (waiting 7 (fresh 1))))
    ≡ record (fresh 1)
    { number = Some 7; holds = true; seen = 0 ∷ 1 ∷ []; tickets = record { number = 0; owes = true } }
unfolding fresh
a_debt = refl

-- a load counts, and is remembered
a_load : loaded Tickets 3 (fresh 1) ≡ record (fresh 1) { loads = 1; tickets = record { number = 3; owes = false } }
unfolding fresh
a_load = refl

-- joined, the seat has the longer list and both numbers, and remembers what each had seen
together : joined (loaded Cycles 2 (fresh 0)) (record (fresh 1) { seen = 0 ∷ 1 ∷ [] })
    ≡ record (fresh 0) {
      loads = 1;
      seen = 0 ∷ 1 ∷ [];
      mine = 0 ∷ 1 ∷ [];
      cycles = record { number = 2; owes = false };
      absorbed =
          (0 ∷ [], []) ∷ (1 ∷ [], 0 ∷ 1 ∷ []) ∷ [];
    }
unfolding fresh
together = refl

-- of four entries, those of pass 1
entries_of_one : of (λ (e : ℕ). e) 1 (0 ∷ 1 ∷ 0 ∷ 1 ∷ []) ≡ 1 ∷ 1 ∷ []
entries_of_one = refl

-- ticket 2 ^ 64 + 3 is drawn next, and 2 ^ 64 - 1 is served: the words wrap, the tickets do not
wrapped : atomic_words {E = ℕ}
    (record {
      ticket = 18446744073709551619;
      serving = 18446744073709551615;
      given = 8;
      log = 0 ∷ 1 ∷ [];
      cycles =
          1;
      tickets = 0;
    }) ≡ 3 ∷ 18446744073709551615 ∷ 2 ∷ 1 ∷ 0 ∷ []
wrapped = refl

-- no two seats hold the turn
pub one_turn_at_a_time : {K E G : Type 0} (m : Ghosts K E G) (footing : G) (seats : ℕ)
    (s : State (Spot K) (SeatView E G)) → Ruled m footing seats s
    → (i j : ℕ) (v w : SeatView E G) → get_elem? s.views i ≡ some v → get_elem? s.views j ≡ some w → v.holds ≡ true
    → w.holds ≡ true → i ≡ j
one_turn_at_a_time m footing seats s r i j v w at there holds holds' = dite (ℕ_discrete i j) (λ same. same) (λ apart.
    absurd ((r.apart i j v w apart at there).tickets r.at.serving ((r.fits i v at).turn holds).0
    ((r.fits j w there).turn holds').0))
