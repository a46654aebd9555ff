-- There is always a feasible step, and a run of them keeps the limits.
use Rattle.std.proofs.Common.{◌≡◌, suc, ◌-◌, ◌<◌, ℤ, pos, negsuc, ◌+ℤ◌, ◌-ℤ◌, ◌≤ℤ◌, neg_ℤ}
use Rattle.std.proofs.Common.{List, [], ◌∷◌, inl, inr, sym, refl, subst, ◌∙◌, arith}
use Rattle.std.specs.Prelude.{◌⊎◌}
use Rattle.std.proofs.lemmas.Bool.{cases_lt}
use Rattle.std.proofs.lemmas.Int.{ints, clamps, by_lt_z}
use Rattle.fixed_num.specs.declared.value.Value.{Value}
use Rattle.cm_model.specs.Limiters.{Reach, brought, wanted_step}
use Rattle.ctl_shape.specs.Limiters.{StopsInTime, IsFeasible, IsNearest, IsNewStep, IsSafe, IsRun, AllKeepLimits}
use Rattle.ctl_shape.proofs.WayLemmas.{once, way_more}
use Rattle.ctl_shape.proofs.StepLemmas.{feasible_stays, down_stops}

-- ---- There is always a step

-- where something may change, the step that is slower by all that is allowed is feasible
slower : (reach : Reach) (at last : ℤ) → 0 < reach.change → IsSafe reach at last
    → (step : ℤ) × IsFeasible reach at last step
slower reach at (pos n) some safe =
    let a = reach.change in
    let way = once a n some in
    let stop = safe.stops in
    let short = safe.no_longer in (
      pos (n - a),
      record {
        no_longer = omega (arith, ints, short);
        near_last = omega (arith, ints);
        stops = omega (arith, ints, way, stop);
        still = λ none. absurd (omega (arith, none, some));
      },
    )
slower reach at (negsuc n) some safe =
    let a = reach.change in
    let way = once a (suc n) some in
    let stop = safe.stops in
    let short = safe.no_longer in (
      neg_ℤ (pos (suc n - a)),
      record {
        no_longer = omega (arith, ints, short);
        near_last = omega (arith, ints);
        stops = down_stops reach at (suc n - a) safe.below (omega (arith, ints, way, stop));
        still = λ none. absurd (omega (arith, none, some));
      },
    )

-- and else it stood still and goes on to
standing : (reach : Reach) (at last : ℤ) → reach.change ≡ 0 → IsSafe reach at last
    → (step : ℤ) × IsFeasible reach at last step
standing reach at last none safe =
    let stood = safe.still none in (
      pos 0,
      record {
        no_longer = omega (arith, ints);
        near_last = omega (arith, ints, stood);
        stops = omega (arith, ints, safe.below);
        still = λ zero. refl;
      },
    )

pub always_a_step : (reach : Reach) (at last : ℤ) → IsSafe reach at last → (step : ℤ) × IsFeasible reach at last step
always_a_step reach at last safe = elim (cases_lt 0 reach.change) [
  | inl some ↦ slower reach at last some safe
  | inr none ↦ standing reach at last (omega (arith, none)) safe
]

-- ---- It stays safe

pub feasible_is_safe : (reach : Reach) (at last out : ℤ) → IsSafe reach at last → IsFeasible reach at last (out -ℤ at)
    → IsSafe reach out (out -ℤ at)
feasible_is_safe reach at last out safe feasible =
    let there : at +ℤ (out -ℤ at) ≡ out = omega (arith, ints) in
    let stays = feasible_stays reach at last (out -ℤ at) safe.above safe.below feasible in
    record {
      above = omega (arith, ints, stays.0);
      below = omega (arith, ints, stays.1);
      no_longer = feasible.no_longer;
      stops = subst (λ z. StopsInTime reach z (out -ℤ at)) there feasible.stops;
      still = feasible.still;
    }

-- so the new step from a safe place is feasible
pub new_is_feasible : (reach : Reach) (at last wanted step : ℤ) → IsSafe reach at last
    → IsNewStep reach at last wanted step → IsFeasible reach at last step
new_is_feasible reach at last wanted step safe (inl nearest) = nearest.feasible
new_is_feasible reach at last wanted step safe (inr none) =
    let found = always_a_step reach at last safe in
    absurd (none.1 found.0 found.1)

pub run_keeps : (reach : Reach) (at last : ℤ) (wanted : List Value) (outs : List ℤ) → IsSafe reach at last
    → IsRun reach at last wanted outs → AllKeepLimits reach at last outs
run_keeps reach at last [] [] safe run = tt
run_keeps reach at last [] (out ∷ outs) safe run = absurd run
run_keeps reach at last (w ∷ wanted) [] safe run = absurd run
run_keeps reach at last (w ∷ wanted) (out ∷ outs) safe run =
    let feasible = new_is_feasible reach at last (wanted_step reach at w) (out -ℤ at) safe run.0 in
    let next = feasible_is_safe reach at last out safe feasible in (
      record {
        feasible = feasible;
        above = next.above;
        below = next.below;
        speed = feasible.no_longer;
        acceleration = feasible.near_last;
      },
      run_keeps reach out (out -ℤ at) wanted outs next run.1,
    )

-- a place between the ends without a step is safe
pub begins_safe : (reach : Reach) (start : ℤ) → reach.lowest ≤ℤ reach.highest
    → IsSafe reach (brought reach start) (pos 0)
begins_safe reach start ordered = record {
  above = omega (arith, ints, clamps, ordered);
  below = omega (arith, ints, clamps, ordered);
  no_longer = omega (arith, ints);
  stops = omega (arith, ints, clamps, ordered);
  still = λ none. refl;
}

-- ---- One step is nearest

-- between two steps that can stop each step can
between_stops : (reach : Reach) (at s m t : ℤ) → 0 < reach.change → s ≤ℤ m → m ≤ℤ t → StopsInTime reach (at +ℤ s) s
    → StopsInTime reach (at +ℤ t) t → StopsInTime reach (at +ℤ m) m
between_stops reach at s (pos n) (pos k) some low high first second =
    let way = way_more reach.change n k some (omega (arith, ints, high)) in
    omega (arith, ints, way, high, second)
between_stops reach at s (pos n) (negsuc k) some low high first second = absurd (omega (arith, ints, high))
between_stops reach at (negsuc k) (negsuc n) t some low high first second =
    let way = way_more reach.change (suc n) (suc k) some (omega (arith, ints, low)) in
    omega (arith, ints, way, low, first)
between_stops reach at (pos k) (negsuc n) t some low high first second = absurd (omega (arith, ints, low))

still_between : (reach : Reach) (at last s m t : ℤ) → reach.change ≡ 0 → s ≤ℤ m → m ≤ℤ t → IsFeasible reach at last s
    → IsFeasible reach at last t → IsFeasible reach at last m
still_between reach at last s m t none low high first second =
    let first_is = first.still none in
    let second_is = second.still none in
    let same : s ≡ m = omega (arith, ints, low, high, first_is, second_is) in
    subst (λ z. IsFeasible reach at last z) same first

-- the feasible steps are all from one number to another
pub all_between : (reach : Reach) (at last s m t : ℤ) → IsFeasible reach at last s → IsFeasible reach at last t → s ≤ℤ m
    → m ≤ℤ t → IsFeasible reach at last m
all_between reach at last s m t first second low high = elim (cases_lt 0 reach.change) [
  | inl some ↦ record {
    no_longer = omega (arith, ints, low, high, first.no_longer, second.no_longer);
    near_last = omega (arith, ints, low, high, first.near_last, second.near_last);
    stops = between_stops reach at s m t some low high first.stops second.stops;
    still = λ none. absurd (omega (arith, none, some));
  }
  | inr none ↦ still_between reach at last s m t (omega (arith, none)) low high first second
]

-- two feasible steps that are both nearest are one
one_nearest : (reach : Reach) (at last wanted s t : ℤ) → s ≤ℤ t → IsNearest reach at last wanted s
    → IsNearest reach at last wanted t → s ≡ t
one_nearest reach at last wanted s t le first second =
    let near = first.no_nearer t second.feasible in
    let near' = second.no_nearer s first.feasible in
    elim (by_int s wanted) [
      | inl above ↦ omega (arith, ints, le, near, near', above)
      | inr low ↦ elim (by_int wanted t) [
        | inl below ↦ omega (arith, ints, le, near, near', below)
        | inr high ↦
            let feasible = all_between reach at last s wanted t first.feasible second.feasible low high in
            let exact = first.no_nearer wanted feasible in
            let exact' = second.no_nearer wanted feasible in
            omega (arith, ints, exact, exact')
      ]
    ]
  where
    by_int : (a b : ℤ) → (b ≤ℤ a) ⊎ (a ≤ℤ b)
    by_int a b = by_lt_z a b (λ lt. inr (omega (arith, ints, lt))) (λ le. inl le)

pub one_step : (reach : Reach) (at last wanted s t : ℤ) → IsNewStep reach at last wanted s
    → IsNewStep reach at last wanted t → s ≡ t
one_step reach at last wanted s t (inl first) (inl second) =
    by_lt_z s t (λ lt. one_nearest reach at last wanted s t (omega (arith, ints, lt)) first second)
    (λ le. sym (one_nearest reach at last wanted t s le second first))
one_step reach at last wanted s t (inl first) (inr none) = absurd (none.1 s first.feasible)
one_step reach at last wanted s t (inr none) (inl second) = absurd (none.1 t second.feasible)
one_step reach at last wanted s t (inr none) (inr none') = none.0 ∙ sym (none'.0)
