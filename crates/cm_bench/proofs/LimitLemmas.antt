-- The plain update of a limiter: the way to stop, and the search.
use Rattle.std.proofs.Common.{◌≡◌, ℕ, suc, ◌+◌, ◌-◌, ◌<◌, ◌≤◌, ℤ, pos, negsuc, ◌+ℤ◌, ◌-ℤ◌, ◌<ℤ◌, ◌≤ℤ◌, nat_abs}
use Rattle.std.proofs.Common.{Bool, true, false, Option, Some, None, refl, sym, subst, ap, ◌∙◌, arith}
use Rattle.std.specs.Prelude.{if◌then◌else◌, ◌&&◌, int_le, unwrap_or}
use Rattle.std.proofs.lemmas.Bool.{le-leb}
use Rattle.std.proofs.lemmas.Int.{ints}
use Rattle.std.proofs.lemmas.Option.{none-some, same_Some}
use Rattle.cm_model.specs.Limiters.{Reach, slowing, way_after, stops_in_time, is_feasible, nearest_from, new_step}
use Rattle.cm_bench.specs.declared.limits.TheConstants.{LONGEST, CHANGE}
use Rattle.cm_bench.specs.Shapes.{timed, one_so_far}

-- ---- The way

-- one further step is added
pub one_slower : (a sum left step turn whole : ℕ) → turn < step → sum + slowing a left (step - turn) ≡ whole
    → (sum + (left - a)) + slowing a (left - a) (step - (turn + 1)) ≡ whole
one_slower a sum left step turn whole less so =
    let next : step - turn ≡ suc (step - (turn + 1)) = omega (arith, less) in
    let opened : sum + ((left - a) + slowing a (left - a) (step - (turn + 1))) ≡ whole =
    subst (λ n. sum + slowing a left n ≡ whole) next so in
    omega (arith, opened)

pub stops_up : (r : Reach) (to step : ℤ) → pos 0 ≤ℤ step
    → stops_in_time r to step ≡ int_le (to +ℤ pos (way_after r.change (nat_abs step))) r.highest
stops_up r to (pos s) up = refl
stops_up r to (negsuc s) up = absurd (omega (arith, ints, up))

pub stops_down : (r : Reach) (to step : ℤ) → step <ℤ pos 0
    → stops_in_time r to step ≡ int_le r.lowest (to -ℤ pos (way_after r.change (nat_abs step)))
stops_down r to (pos s) down = absurd (omega (arith, ints, down))
stops_down r to (negsuc s) down = refl

-- ---- The test of a step

and_true : (b : Bool) → (b && true) ≡ b
and_true true = refl
and_true false = refl

-- a step that is short enough, and near enough to the last one, is feasible if it stops in time
pub as_it_stops : (at last step : ℤ) (stops : Bool) → nat_abs step ≤ LONGEST → nat_abs (step -ℤ last) ≤ CHANGE
    → stops ≡ stops_in_time timed (at +ℤ step) step → stops ≡ is_feasible timed at last step
as_it_stops at last step stops short near so =
    rw (le-leb (nat_abs step) LONGEST short, le-leb (nat_abs (step -ℤ last)) CHANGE near)
    (so ∙ sym (and_true (stops_in_time timed (at +ℤ step) step)))

-- ---- The two that are so far from the wanted one

pub first_one : (at last wanted : ℤ) (far : ℕ) → is_feasible timed at last (wanted -ℤ pos far) ≡ true
    → Some (wanted -ℤ pos far) ≡ one_so_far at last wanted far
first_one at last wanted far low = rw low refl

pub second_one : (at last wanted : ℤ) (far : ℕ) → is_feasible timed at last (wanted -ℤ pos far) ≡ false
    → is_feasible timed at last (wanted +ℤ pos far) ≡ true
    → Some (wanted +ℤ pos far) ≡ one_so_far at last wanted far
second_one at last wanted far low high = rw (low, high) refl

pub neither_one : (at last wanted : ℤ) (far : ℕ) → is_feasible timed at last (wanted -ℤ pos far) ≡ false
    → is_feasible timed at last (wanted +ℤ pos far) ≡ false → None ≡ one_so_far at last wanted far
neither_one at last wanted far low high = rw (low, high) refl

one_of_two : (low high : Bool) (x y step : ℤ) (most : ℕ) → nat_abs x ≤ most → nat_abs y ≤ most
    → (if low then Some x else if high then Some y else None) ≡ Some step → nat_abs step ≤ most
one_of_two true high x y step most a b is = subst (λ z. nat_abs z ≤ most) (same_Some x step is) a
one_of_two false true x y step most a b is = subst (λ z. nat_abs z ≤ most) (same_Some y step is) b
one_of_two false false x y step most a b is = absurd (none-some step is)

-- it is no longer than the wanted one and so far
pub short_so_far : (at last wanted : ℤ) (far : ℕ) (step : ℤ) → one_so_far at last wanted far ≡ Some step
    → nat_abs step ≤ nat_abs wanted + far
short_so_far at last wanted far step is =
    one_of_two (is_feasible timed at last (wanted -ℤ pos far)) (is_feasible timed at last (wanted +ℤ pos far))
    (wanted -ℤ pos far) (wanted +ℤ pos far) step (nat_abs wanted + far)
    (omega (arith, ints)) (omega (arith, ints)) is

-- ---- The search

-- what it finds from here on, in so many turns
abbrev pub found_from : ℤ → ℤ → ℤ → ℕ → ℕ → ℤ
found_from at last wanted far times = unwrap_or (nearest_from timed at last wanted far times) (pos 0)

pub search_begins : (at last wanted : ℤ)
    → new_step timed at last wanted ≡ found_from at last wanted 0 (suc (nat_abs wanted + timed.longest) - 0)
unfolding new_step
search_begins at last wanted =
    let all : suc (nat_abs wanted + timed.longest) ≡ suc (nat_abs wanted + timed.longest) - 0 = omega arith in
    ap (found_from at last wanted 0) all

first_of : (low high : Bool) (x y : ℤ) (rest : Option ℤ) (step : ℤ)
    → (if low then Some x else if high then Some y else None) ≡ Some step
    → (if low then Some x else if high then Some y else rest) ≡ Some step
first_of true high x y rest step is = is
first_of false true x y rest step is = is
first_of false false x y rest step is = absurd (none-some step is)

neither_of : (low high : Bool) (x y : ℤ) (rest : Option ℤ)
    → (if low then Some x else if high then Some y else None) ≡ None
    → (if low then Some x else if high then Some y else rest) ≡ rest
neither_of true high x y rest is = absurd (none-some x (sym is))
neither_of false true x y rest is = absurd (none-some y (sym is))
neither_of false false x y rest is = refl

-- one of the two is feasible: it is what is found
pub search_ends : (at last wanted : ℤ) (far times : ℕ) (step : ℤ) → one_so_far at last wanted far ≡ Some step
    → found_from at last wanted far (suc times) ≡ step
unfolding nearest_from
search_ends at last wanted far times step is =
    ap (λ o. unwrap_or o (pos 0))
    (first_of (is_feasible timed at last (wanted -ℤ pos far)) (is_feasible timed at last (wanted +ℤ pos far))
    (wanted -ℤ pos far) (wanted +ℤ pos far)
    (nearest_from timed at last wanted (far + 1) times) step is)

-- neither is: it goes on with those that are one farther
pub search_goes_on : (at last wanted : ℤ) (far times : ℕ) → one_so_far at last wanted far ≡ None
    → found_from at last wanted far (suc times) ≡ found_from at last wanted (far + 1) times
unfolding nearest_from
search_goes_on at last wanted far times is =
    ap (λ o. unwrap_or o (pos 0))
    (neither_of (is_feasible timed at last (wanted -ℤ pos far)) (is_feasible timed at last (wanted +ℤ pos far))
    (wanted -ℤ pos far) (wanted +ℤ pos far)
    (nearest_from timed at last wanted (far + 1) times) is)

-- no turn is left: it finds nothing
pub search_stops : (at last wanted : ℤ) (far : ℕ) → found_from at last wanted far 0 ≡ pos 0
unfolding nearest_from
search_stops at last wanted far = refl
