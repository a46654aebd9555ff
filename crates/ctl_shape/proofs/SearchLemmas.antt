-- The search of the table finds the new step.
use Rattle.std.proofs.Common.{◌≡◌, ℕ, zero, suc, ◌+◌, ◌≤◌, ℤ, pos, negsuc, ◌+ℤ◌, ◌-ℤ◌, ◌≤ℤ◌, nat_abs, Bool, true}
use Rattle.std.proofs.Common.{false, Option, Some, None, inl, inr, refl, sym, subst, ◌∙◌, true≢false, arith}
use Rattle.std.specs.Prelude.{◌⊎◌, ◌&&◌, ◌||◌, ◌==◌, nat_le, nat_lt, int_le, if◌then◌else◌, unwrap_or}
use Rattle.std.proofs.lemmas.Bool.{leb-true, le-leb, lt-ltb, eqb-true, eq-eqb, and_parts, cases_lt}
use Rattle.std.proofs.lemmas.Int.{ints, by_lt_z}
use Rattle.cm_model.specs.Limiters.{Reach, way_after, stops_in_time, is_feasible, nearest_from, new_step}
use Rattle.ctl_shape.specs.Limiters.{StopsInTime, IsFeasible, IsNewStep}
use Rattle.ctl_shape.proofs.LimitLemmas.{one_step}

-- ---- What the test of a step says

is_le : (a b : ℤ) → a ≤ℤ b → int_le a b ≡ true
is_le (pos a) (pos b) le = le-leb a b (omega (arith, ints, le))
is_le (pos a) (negsuc b) le = absurd (omega (arith, ints, le))
is_le (negsuc a) (pos b) le = refl
is_le (negsuc a) (negsuc b) le = le-leb b a (omega (arith, ints, le))

both_so : (first second : Bool) → first ≡ true → second ≡ true → (first && second) ≡ true
both_so first second one other = rw (one, other) refl

stop_so : (reach : Reach) (to step : ℤ) → stops_in_time reach to step ≡ true → StopsInTime reach to step
stop_so reach to (pos s) so = omega (arith, ints, so)
stop_so reach to (negsuc s) so = omega (arith, ints, so)

so_stop : (reach : Reach) (to step : ℤ) → StopsInTime reach to step → stops_in_time reach to step ≡ true
so_stop reach to (pos s) stop = is_le (to +ℤ pos (way_after reach.change s)) reach.highest stop
so_stop reach to (negsuc s) stop = is_le reach.lowest (to -ℤ pos (way_after reach.change (suc s))) stop

still_so : (change : ℕ) (step : ℤ) → (nat_lt 0 change || nat_abs step == 0) ≡ true → change ≡ 0 → step ≡ pos 0
still_so zero step so none = let is = eqb-true (nat_abs step) 0 so in omega (arith, ints, is)
still_so (suc n) step so none = absurd (omega (arith, none))

so_still : (change : ℕ) (step : ℤ) → (change ≡ 0 → step ≡ pos 0) → (nat_lt 0 change || nat_abs step == 0) ≡ true
so_still zero step still = let is = still refl in eq-eqb (nat_abs step) 0 (omega (arith, ints, is))
so_still (suc n) step still = rw (lt-ltb 0 (suc n) (omega arith)) refl

-- a step that passes the test is feasible,
pub feasible_so : (reach : Reach) (at last step : ℤ) → is_feasible reach at last step ≡ true
    → IsFeasible reach at last step
feasible_so reach at last step so =
    let first = and_parts (nat_le (nat_abs step) reach.longest) _ so in
    let second = and_parts (nat_le (nat_abs (step -ℤ last)) reach.change) _ first.1 in
    let third = and_parts (stops_in_time reach (at +ℤ step) step) _ second.1 in
    record {
      no_longer = leb-true (nat_abs step) reach.longest first.0;
      near_last = leb-true (nat_abs (step -ℤ last)) reach.change second.0;
      stops = stop_so reach (at +ℤ step) step third.0;
      still = λ none. still_so reach.change step third.1 none;
    }

-- and a feasible step passes it
pub so_feasible : (reach : Reach) (at last step : ℤ) → IsFeasible reach at last step
    → is_feasible reach at last step ≡ true
so_feasible reach at last step feasible =
    both_so (nat_le (nat_abs step) reach.longest) _ (le-leb (nat_abs step) reach.longest feasible.no_longer)
    (both_so (nat_le (nat_abs (step -ℤ last)) reach.change) _
    (le-leb (nat_abs (step -ℤ last)) reach.change feasible.near_last)
    (both_so (stops_in_time reach (at +ℤ step) step) _ (so_stop reach (at +ℤ step) step feasible.stops)
    (so_still reach.change step feasible.still)))

-- ---- The search

-- no step that passes the test is nearer to the wanted one than this
abbrev IsNone : (ℤ → Bool) → ℤ → ℕ → Type 0
IsNone test wanted far = (other : ℤ) → test other ≡ true → far ≤ nat_abs (other -ℤ wanted)

-- What is found is the nearest step that passes the test; if nothing is, none passes that is nearer than this.
abbrev IsFound : (ℤ → Bool) → ℤ → ℕ → Option ℤ → Type 0
IsFound test wanted limit None = IsNone test wanted limit
IsFound test wanted limit (Some step) = (test step ≡ true) × IsNone test wanted (nat_abs (step -ℤ wanted))

-- the two that are so far from the wanted one are all that are
two_so_far : (other wanted : ℤ) (far : ℕ) → nat_abs (other -ℤ wanted) ≤ far → far ≤ nat_abs (other -ℤ wanted)
    → (other ≡ wanted -ℤ pos far) ⊎ (other ≡ wanted +ℤ pos far)
two_so_far other wanted far most least =
    by_lt_z other wanted (λ below. inl (omega (arith, ints, below, most, least)))
    (λ above. inr (omega (arith, ints, above, most, least)))

module _ (test : ℤ → Bool) (wanted : ℤ) (far : ℕ) where
  refused : (z : ℤ) → test z ≡ false → test z ≡ true → ⊥
  refused z no' so = true≢false (sym so ∙ no')

  -- if neither of the two passes, all that do are farther
  farther : IsNone test wanted far → test (wanted -ℤ pos far) ≡ false → test (wanted +ℤ pos far) ≡ false
      → IsNone test wanted (far + 1)
  farther apart low high other so = elim (cases_lt far (nat_abs (other -ℤ wanted))) [
    | inl more ↦ omega (arith, more)
    | inr most ↦ elim (two_so_far other wanted far most (apart other so)) [
      | inl is ↦ absurd (refused (wanted -ℤ pos far) low (subst (λ z. test z ≡ true) is so))
      | inr is ↦ absurd (refused (wanted +ℤ pos far) high (subst (λ z. test z ≡ true) is so))
    ]
  ]

  one_more : (limit : ℕ) (rest : Option ℤ) (low high : Bool) → IsNone test wanted far → test (wanted -ℤ pos far) ≡ low
      → test (wanted +ℤ pos far) ≡ high
      → (IsNone test wanted (far + 1) → IsFound test wanted limit rest)
      → IsFound test wanted limit
      (if low then Some (wanted -ℤ pos far) else if high then Some (wanted +ℤ pos far) else rest)
  one_more limit rest true high apart low_is high_is later =
      (low_is, λ other so. let least = apart other so in omega (arith, ints, least))
  one_more limit rest false true apart low_is high_is later =
      (high_is, λ other so. let least = apart other so in omega (arith, ints, least))
  one_more limit rest false false apart low_is high_is later = later (farther apart low_is high_is)

found : (reach : Reach) (at last wanted : ℤ) (limit far times : ℕ) → limit ≡ far + times
    → IsNone (is_feasible reach at last) wanted far
    → IsFound (is_feasible reach at last) wanted limit (nearest_from reach at last wanted far times)
unfolding nearest_from
found reach at last wanted limit far zero is apart = λ other so. let least = apart other so in omega (arith, least, is)
found reach at last wanted limit far (suc times) is apart =
    one_more (is_feasible reach at last) wanted far limit (nearest_from reach at last wanted (far + 1) times)
    (is_feasible reach at last (wanted -ℤ pos far)) (is_feasible reach at last (wanted +ℤ pos far)) apart refl refl
    (λ apart'. found reach at last wanted limit (far + 1) times (omega (arith, is)) apart')

found_is_new : (reach : Reach) (at last wanted : ℤ) (o : Option ℤ)
    → IsFound (is_feasible reach at last) wanted (suc (nat_abs wanted + reach.longest)) o
    → IsNewStep reach at last wanted (unwrap_or o (pos 0))
found_is_new reach at last wanted None none = inr (
  refl,
  λ other feasible.
      let far = none other (so_feasible reach at last other feasible) in
      absurd (omega (arith, ints, far, feasible.no_longer)),
)
found_is_new reach at last wanted (Some step) nearest = inl (record {
  feasible = feasible_so reach at last step nearest.0;
  no_nearer = λ other feasible. nearest.1 other (so_feasible reach at last other feasible);
})

-- the search finds the new step
pub search_finds : (reach : Reach) (at last wanted : ℤ) → IsNewStep reach at last wanted (new_step reach at last wanted)
unfolding new_step
search_finds reach at last wanted =
    found_is_new reach at last wanted (nearest_from reach at last wanted 0 (suc (nat_abs wanted + reach.longest)))
    (found reach at last wanted (suc (nat_abs wanted + reach.longest)) 0 (suc (nat_abs wanted + reach.longest))
    (omega arith) (λ other so. omega arith))

-- so a new step is the one that it finds
pub new_is_found : (reach : Reach) (at last wanted step : ℤ) → IsNewStep reach at last wanted step
    → step ≡ new_step reach at last wanted
new_is_found reach at last wanted step new =
    one_step reach at last wanted step (new_step reach at last wanted) new (search_finds reach at last wanted)
