-- What follows of a pass's seat from that it stands right, and its steps after a write to the slot that it holds.
use Rattle.std.proofs.Common.{◌≡◌, ℕ, ◌+◌, ◌%◌, ◌^◌, ◌<◌, ◌==◌, true, false, not, ◌&&◌}
use Rattle.std.proofs.Common.{cond, List, [], ◌∷◌, length, Contains, Option, Some, None}
use Rattle.std.proofs.Common.{is_none, refl, sym, ap, ◌∙◌, subst, arith, true≢false, eqb-true}
use mathlib.Core.Option.{none}
use Rattle.std.specs.declared.snapshot.Snapshot.{Snapshot}
use Rattle.std.proofs.lemmas.Bool.{and_parts, not-true}
use Rattle.atomic_table.specs.Table.{Me, step, Allows, rest}
use Rattle.turn_lock.specs.declared.kept.Kept.{Ghosts}
use Rattle.turn_lock.specs.declared.kept.Shown.{Shown}
use Rattle.turn_lock.specs.declared.kept.Shown.TheVariants.{Cycles, Tickets}
use Rattle.turn_lock.specs.declared.pass.TurnPass.{TurnPass}
use Rattle.turn_lock.specs.declared.table.Spot.{Spot}
use Rattle.turn_lock.specs.declared.table.Spot.TheVariants.{Home, Counted}
use Rattle.turn_lock.specs.declared.view.SeatView.{SeatView}
use Rattle.turn_lock.specs.Stands.{is_emptied, has_slot, is_nil, is_idle, stands}
use Rattle.turn_lock.specs.Rule.{Ruled}
use Rattle.turn_lock.specs.Steps.{atomic_word_of, Hit, looked, counts, publishes, loads, passes_on}
use Rattle.turn_lock.specs.Calls.Count.{AddsOne}
use Rattle.turn_lock.specs.Calls.Put.{IsSettled}
use Rattle.turn_lock.specs.Calls.Take.{Waits}
use Rattle.turn_lock.specs.Passes.{view}
use Rattle.turn_lock.specs.Views.{known}
use Rattle.turn_lock.proofs.StepLemmas.{some_step, counts_one, publishes_one, loads_one, passes}

nil_is : {A : Type 0} (xs : List A) → is_nil xs ≡ true → xs ≡ []
nil_is [] e = refl
nil_is (x ∷ xs) e = absurd (true≢false (sym e))

none_is : (a : Option ℕ) → is_none a ≡ true → a ≡ None
none_is None e = refl
none_is (Some n) e = absurd (true≢false (sym e))

slot_is : {K : Type 0} (slots : List (ℕ × Spot K)) → has_slot slots ≡ true
    → (spot : Spot K) × (slots ≡ (0, spot) ∷ []) × (is_emptied spot ≡ true)
slot_is [] e = absurd (true≢false (sym e))
slot_is ((k, x) ∷ []) e =
    let b = and_parts (k == 0) (is_emptied x) e in let is : k ≡ 0 = eqb-true k 0 b.0 in (x, (λ i. (is i, x) ∷ []), b.1)
slot_is (x ∷ y ∷ xs) e = absurd (true≢false (sym e))

module _ {E G : Type 0} where
  pub paid_both : (v : SeatView E G) → v.cycles.owes ≡ false → v.tickets.owes ≡ false → (which : Shown)
      → (known which v).owes ≡ false
  paid_both v a b Cycles = a
  paid_both v a b Tickets = b

module _ {K E G : Type 0} where
  -- who holds the turn has the slot, emptied, and no other pass was joined into it
  pub record Holder (me : Me (Spot K) (SeatView E G)) : Type 0 where
    pub spot : Spot K
    pub slot : me.1 ≡ (0, spot) ∷ []
    pub emptied : is_emptied spot ≡ true
    pub absorbed : me.0.absorbed ≡ []

  pub holder : (me : Me (Spot K) (SeatView E G)) → stands me ≡ true → me.0.holds ≡ true → Holder me
  holder me e holds =
      let b = and_parts (is_nil me.0.absorbed) (cond me.0.holds (has_slot me.1) (is_idle me)) e in
      let s = slot_is me.1 (subst (λ h. cond h (has_slot me.1) (is_idle me) ≡ true) holds b.1) in
      record { spot = s.0; slot = s.1; emptied = s.2; absorbed = nil_is me.0.absorbed b.0 }

  -- who does not has no ticket, no slot and no debt
  pub record Idle (me : Me (Spot K) (SeatView E G)) : Type 0 where
    pub number : me.0.number ≡ None
    pub slot : me.1 ≡ []
    pub cycles : me.0.cycles.owes ≡ false
    pub tickets : me.0.tickets.owes ≡ false
    pub absorbed : me.0.absorbed ≡ []

  pub idle : (me : Me (Spot K) (SeatView E G)) → stands me ≡ true → me.0.holds ≡ false → Idle me
  idle me e waits =
      let b = and_parts (is_nil me.0.absorbed) (cond me.0.holds (has_slot me.1) (is_idle me)) e in
      let i : is_idle me ≡ true = subst (λ h. cond h (has_slot me.1) (is_idle me) ≡ true) waits b.1 in
      let x = and_parts (is_none me.0.number && is_nil me.1 && not me.0.cycles.owes) (not me.0.tickets.owes) i in
      let y = and_parts (is_none me.0.number && is_nil me.1) (not me.0.cycles.owes) x.0 in
      let z = and_parts (is_none me.0.number) (is_nil me.1) y.0 in
      record {
        number = none_is me.0.number z.0;
        slot = nil_is me.1 z.1;
        cycles =
            not-true me.0.cycles.owes y.1;
        tickets = not-true me.0.tickets.owes x.1;
        absorbed = nil_is me.0.absorbed b.0;
      }

  -- the slot can be written, since it is held
  pub slot_held : (me : Me (Spot K) (SeatView E G)) → stands me ≡ true → me.0.holds ≡ true
      → (old : Spot K) × (me.1 ≡ (0, old) ∷ rest me.1)
  slot_held me e holds = let h = holder me e holds in (h.spot, subst (λ l. l ≡ (0, h.spot) ∷ rest l) (sym h.slot) refl)

module _ {K E G : Type 0} (m : Ghosts K E G) (footing : G) (seats : ℕ) where
  pub publishes_at : (slots : ℕ) (i : ℕ) (me : Me (Spot K) (SeatView E G)) (which : Shown) (word n : ℕ)
      → word ≡ atomic_word_of which → me.0.holds ≡ true → n ≡ m.shown which me.0.seen
      → Allows (Ruled m footing seats) slots i me word (λ _. n) (λ _. publishes (step slots word n 0 none) me n)
  publishes_at slots i me which word n is holds number =
      subst (λ k. Allows (Ruled m footing seats) slots i me k (λ _. n) (λ _. publishes (step slots k n 0 none) me n))
      (sym is)
      (publishes_one m footing seats slots (step slots (atomic_word_of which) n 0 none) i me which n refl holds number)

  pub loads_at : (slots : ℕ) (i : ℕ) (me : Me (Spot K) (SeatView E G)) (which : Shown) (word : ℕ)
      → word ≡ atomic_word_of which
      → Allows (Ruled m footing seats) slots i me word (λ n. n) (loads m (step slots word 0 0 none) me)
  loads_at slots i me which word is =
      subst (λ k. Allows (Ruled m footing seats) slots i me k (λ n. n) (loads m (step slots k 0 0 none) me)) (sym is)
      (loads_one m footing seats slots (step slots (atomic_word_of which) 0 0 none) i me which refl)

pub word_within : (which : Shown) (word words : ℕ) → word ≡ atomic_word_of which → words ≡ 5 → word < words
word_within Cycles word words is five = omega arith
word_within Tickets word words is five = omega arith

module _ {K E G : Type 0} (m : Ghosts K E G) where
  -- a look that found the ticket's word
  pub hit_of : (old me : Me (Spot K) (SeatView E G)) (found mine : ℕ) → Waits old old mine
      → looked m some_step old found me → found ≡ mine → Hit m old me
  hit_of old me found mine w tells same =
      (tells w.ticket (ap (λ (x : Me (Spot K) (SeatView E G)). x.0.number) w.is)).0 (same ∙ sym w.remainder)

  pub slot_of_hit : (old me : Me (Spot K) (SeatView E G)) → Hit m old me
      → (spot : Spot K) × (me.1 ≡ (0, spot) ∷ rest me.1)
  slot_of_hit old me h =
      (Home h.kept, subst (λ (x : Me (Spot K) (SeatView E G)). x.1 ≡ (0, Home h.kept) ∷ rest x.1) (sym h.holds) refl)

module _ {K E G : Type 0} {g : Ghosts K E G} (footing : G) (seats : ℕ) where
  -- the count, once the value is named in the slot
  pub counts_after : (slots : ℕ) (i : ℕ) (p : TurnPass K E G g) (me : Me (Spot K) (SeatView E G)) (named : Snapshot K)
      (kept : K)
      → me ≡ (view p, (0, Counted named) ∷ []) → named.value ≡ kept → (view p).holds ≡ true → AddsOne p kept
      → Allows (Ruled g footing seats) slots i me 2 (λ n. (n + 1) % 2 ^ 64) (counts g some_step me)
  counts_after slots i p me named kept is names holds adds =
      let h = holder p.seat.me p.stands holds in
      let own : Contains (view p).mine (g.caller adds.entry) =
      subst (λ (l : List ℕ). Contains l (g.caller adds.entry)) (sym p.mine) (0, omega arith, sym adds.caller) in
      let few = adds.room in
      subst (λ (x : Me (Spot K) (SeatView E G)). Allows (Ruled g footing seats) slots i x 2 (λ n. (n + 1) % 2 ^ 64)
      (counts g some_step x)) (sym is)
      (counts_one g footing seats slots i (view p, (0, Counted named) ∷ []) named adds.entry refl holds h.absorbed
      (ap g.entries names ∙ adds.list) own (omega (arith, ap length (ap g.entries names))))

  -- passing on, once the value is home
  pub passes_after : (slots : ℕ) (i : ℕ) (p : TurnPass K E G g) (me : Me (Spot K) (SeatView E G)) (kept : K)
      → me ≡ (view p, (0, Home kept) ∷ []) → (view p).holds ≡ true → IsSettled p kept
      → Allows (Ruled g footing seats) slots i me 1 (λ n. (n + 1) % 2 ^ 64) (passes_on some_step me)
  passes_after slots i p me kept is holds s =
      subst (λ (x : Me (Spot K) (SeatView E G)). Allows (Ruled g footing seats) slots i x 1 (λ n. (n + 1) % 2 ^ 64)
      (passes_on some_step x)) (sym is)
      (passes g footing seats slots i (view p, (0, Home kept) ∷ []) kept refl p.alive holds s.all_counted s.ground_is
      (paid_both (view p) s.cycles s.tickets))
