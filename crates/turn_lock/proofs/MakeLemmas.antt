-- Fresh passes in a row.
use Rattle.std.proofs.Common.{◌≡◌, ℕ, ◌+◌, List, [], ◌∷◌, ◌++◌, length}
use Rattle.std.proofs.Common.{Option, refl, sym, ap, ◌∙◌, subst, add-one, length-append}
use mathlib.Core.List.{map-append}
use Rattle.std.specs.List.{range_with_len}
use Rattle.std.proofs.lemmas.List.{map-id}
use Rattle.std.proofs.lemmas.List.Elements.{All-cons, All-push}
use Rattle.std.proofs.lemmas.List.FromFn.{map-range_with_len_more}
use Rattle.turn_lock.specs.declared.kept.Kept.{Ghosts}
use Rattle.turn_lock.specs.declared.lock.TurnLock.{TurnLock}
use Rattle.turn_lock.specs.declared.pass.TurnPass.{TurnPass}
use Rattle.turn_lock.specs.declared.view.SeatView.{SeatView}
use Rattle.turn_lock.specs.Passes.{view, IsPassOf}
use Rattle.turn_lock.specs.Calls.Make.{IsFresh, AreFresh}

range_push : (a n : ℕ) → range_with_len a (n + 1) ≡ range_with_len a n ++ (a + n) ∷ []
range_push a n =
    sym (map-id (range_with_len a (n + 1))) ∙ map-range_with_len_more (λ k. k) a n (a + n) refl
    ∙ ap (λ l. l ++ (a + n) ∷ []) (map-id (range_with_len a n))

pub alone : {A : Type 0} (xs ys : List A) (x : A) → ys ≡ xs ++ x ∷ [] → xs ≡ [] → ys ≡ x ∷ []
alone xs ys x is none = is ∙ ap (λ l. l ++ x ∷ []) none

module _ {K E G : Type 0} {g : Ghosts K E G} where
  -- the row so far and the pass of the next number
  pub fresh_next : (lock : TurnLock K E G) (footing : Option G) (ps qs : List (TurnPass K E G g)) (p : TurnPass K E G g)
      → qs ≡ ps ++ p ∷ []
      → AreFresh lock footing 1 (length ps) ps → p.number ≡ 1 + length ps → IsPassOf lock p → IsFresh footing (view p)
      → AreFresh lock footing 1 (length qs) qs
  fresh_next lock footing ps qs p is row number of_lock fresh =
      let long : length ps + 1 ≡ length qs = sym (length-append ps (p ∷ [])) ∙ ap length (sym is) in
      subst (λ (x : ℕ × List (TurnPass K E G g)). AreFresh lock footing 1 x.0 x.1) (λ i. (long i, sym is i))
      (record {
        numbers = map-append (λ (q : TurnPass K E G g). q.number) ps (p ∷ []) ∙ (λ i. row.numbers i ++ number i ∷ [])
            ∙ sym (range_push 1 (length ps));
        of_lock = All-push (IsPassOf lock) ps p row.of_lock of_lock;
        fresh = All-push (λ q. IsFresh footing (view q)) ps p row.fresh fresh;
      })

  pub fresh_first : (lock : TurnLock K E G) (footing : Option G) (count : ℕ) (ps : List (TurnPass K E G g))
      (p : TurnPass K E G g) → AreFresh lock footing 1 count ps
      → p.number ≡ 0 → IsPassOf lock p → IsFresh footing (view p) → AreFresh lock footing 0 (count + 1) (p ∷ ps)
  fresh_first lock footing count ps p row number of_lock fresh = record {
    numbers = (λ i. number i ∷ row.numbers i) ∙ sym (ap (range_with_len 0) (add-one count));
    of_lock = All-cons (IsPassOf lock) p ps of_lock row.of_lock;
    fresh = All-cons (λ q. IsFresh footing (view q)) p ps fresh row.fresh;
  }

-- who has taken no turn and seen nothing is fresh whatever its numbers are
pub fresh_with : {E G : Type 0} (footing : Option G) (v w : SeatView E G) (turns loads : ℕ) (mine : List ℕ)
    (given : Option ℕ) (absorbed : List (List ℕ × List E))
    → w ≡ record v { turns = turns; loads = loads; mine = mine; given = given; absorbed = absorbed }
    → turns ≡ 0 → loads ≡ 0 → IsFresh footing v → IsFresh footing w
fresh_with footing v w turns loads mine given absorbed is no_turns no_loads f =
    subst (IsFresh footing) (sym is)
    (record {
      idle = f.idle;
      seen = f.seen;
      turns = no_turns;
      loads = no_loads;
      cycles = f.cycles;
      tickets = f.tickets;
      footing_is = f.footing_is;
    })
