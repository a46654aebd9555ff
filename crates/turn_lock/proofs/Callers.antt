-- For callers: that the passes of `make` are all passes, also after they went to threads and came back, and in another
-- order.
use Rattle.std.proofs.Common.{◌≡◌, ℕ, suc, ◌<◌, List, [], ◌∷◌, ◌++◌, map, length, get_or}
use Rattle.std.proofs.Common.{All, Contains, refl, sym, ◌∙◌, subst, ⊎_elim, arith}
use mathlib.Core.List.{map-append}
use Rattle.std.specs.List.{range_with_len}
use Rattle.std.proofs.lemmas.List.Elements.{All-cons, Contains-append_left}
use Rattle.std.proofs.lemmas.List.Elements.{Contains-append_right, Contains-append_cases}
use Rattle.std.proofs.lemmas.List.FromFn.{length-range_with_len, get_or-range_with_len}
use Rattle.turn_lock.specs.declared.kept.Kept.{Ghosts}
use Rattle.turn_lock.specs.declared.lock.TurnLock.{TurnLock}
use Rattle.turn_lock.specs.declared.pass.TurnPass.{TurnPass}
use Rattle.turn_lock.specs.Calls.Make.{Made}
use Rattle.turn_lock.specs.Passes.{IsReady, EachStays}
use Rattle.turn_lock.specs.Calls.Finish.{AreAll}
use Rattle.turn_lock.proofs.FinishLemmas.{all_left, all_right}

-- each number below n stands among the first n
in_range : (n k : ℕ) → k < n → Contains (range_with_len 0 n) k
in_range n k low = (k, omega (arith, length-range_with_len 0 n), get_or-range_with_len 0 n k k low ∙ omega arith)

module _ {K E G : Type 0} {g : Ghosts K E G} where
  -- passes of `make` are ready
  pub made_ready : (lock : TurnLock K E G) (footing : G) (seats : ℕ) (ps : List (TurnPass K E G g))
      → Made footing seats lock ps → All (IsReady lock) ps
  made_ready lock footing seats ps made =
      λ k d lt. (made.passes_are.of_lock k d lt, (made.passes_are.fresh k d lt).idle)

  same_numbers : (ps qs : List (TurnPass K E G g)) → length qs ≡ length ps
      → ((i : ℕ) (p q : TurnPass K E G g) → i < length ps → (get_or qs i q).number ≡ (get_or ps i p).number)
      → map (λ p. p.number) qs ≡ map (λ p. p.number) ps
  same_numbers [] [] long same = refl
  same_numbers [] (q ∷ qs) long same = absurd (omega arith)
  same_numbers (p ∷ ps) [] long same = absurd (omega arith)
  same_numbers (p ∷ ps) (q ∷ qs) long same =
      let rest = same_numbers ps qs (omega arith) (λ i x y lt. same (suc i) x y (omega arith)) in
      let first = same 0 p q (omega arith) in λ i. first i ∷ rest i

  -- those of `make` that came back are all
  pub back_are_all : (lock : TurnLock K E G) (footing : G) (seats : ℕ) (ps qs : List (TurnPass K E G g))
      → Made footing seats lock ps → length qs ≡ length ps → EachStays lock ps qs → AreAll lock qs
  back_are_all lock footing seats ps qs made long each = record {
    ready = λ k d lt. (each k d d (omega arith)).0;
    all = λ n low.
        let numbers : map (λ (p : TurnPass K E G g). p.number) qs ≡ range_with_len 0 seats =
        same_numbers ps qs long (λ i p q lt. (each i p q lt).1) ∙ made.passes_are.numbers in
        subst (λ (l : List ℕ). Contains l n) (sym numbers) (in_range seats n (subst (λ k. n < k) made.seats_are low));
  }

  -- all passes, the last one handed in first
  pub last_first : (lock : TurnLock K E G) (ps : List (TurnPass K E G g)) (p : TurnPass K E G g)
      → AreAll lock (ps ++ p ∷ []) → AreAll lock (p ∷ ps)
  last_first lock ps p a = record {
    ready = All-cons (IsReady lock) p ps (all_right (IsReady lock) ps (p ∷ []) a.ready 0 p (omega arith))
        (all_left (IsReady lock) ps (p ∷ []) a.ready);
    all = λ n low.
        let number = λ (q : TurnPass K E G g). q.number in
        let c : Contains (map number ps ++ p.number ∷ []) n =
        subst (λ (l : List ℕ). Contains l n) (map-append number ps (p ∷ [])) (a.all n low) in
        ⊎_elim
        (λ (x : Contains (map number ps) n). Contains-append_right (p.number ∷ []) (map number ps) n x)
        (λ (x : Contains (p.number ∷ []) n). Contains-append_left (p.number ∷ []) (map number ps) n x)
        (Contains-append_cases (map number ps) (p.number ∷ []) n c);
  }
