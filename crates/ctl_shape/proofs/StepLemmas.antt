-- Which steps of a limiter are feasible.
use Rattle.std.proofs.Common.{◌≡◌, ℕ, zero, suc, ◌+◌, ◌*◌, ◌<◌, ◌≤◌, ℤ, pos, negsuc, ◌+ℤ◌, ◌-ℤ◌}
use Rattle.std.proofs.Common.{◌<ℤ◌, ◌≤ℤ◌, neg_ℤ, nat_abs, List, [], ◌∷◌, ◌++◌, inl, inr, ap}
use Rattle.std.proofs.Common.{sym, refl, subst, ◌∙◌, arith, to_z, of_z, w64, append_assoc}
use Rattle.std.specs.Prelude.{◌⊎◌, min}
use Rattle.std.specs.Int.{int_min, int_max}
use Rattle.std.proofs.lemmas.Bool.{cases_lt}
use Rattle.std.proofs.lemmas.List.{append-nil}
use Rattle.std.proofs.lemmas.Int.{ints, clamps, by_lt_z}
use Rattle.fixed_num.specs.Micro.{IsInRange}
use Rattle.fixed_num.specs.declared.TheConstants.{LARGEST}
use Rattle.fixed_num.specs.declared.value.Value.{Value}
use Rattle.cm_model.specs.Limiters.{Reach, way_after, brought, wanted_step}
use Rattle.ctl_shape.specs.Limiters.{StopsInTime, IsFeasible, IsNewStep, IsRun, IsRunFrom}
use Rattle.ctl_shape.specs.Capped.{capped, IsCapped}
use Rattle.ctl_shape.specs.Calls.Steps.{IsLongest, IsCut, least_of, most_of}
use Rattle.ctl_shape.proofs.WayLemmas.{slow_none, way_more}

-- ---- Steps that can stop

-- a step that is longer than the longest has no room
no_room : (change room step longest other : ℕ) → 0 < change → IsLongest change room step longest → longest < step
    → longest < other → room < other + way_after change other
no_room change room step longest other some is shorter farther =
    let way = way_more change (longest + 1) other some (omega (arith, farther)) in
    omega (arith, way, farther, is.no_farther shorter)

up_between : (reach : Reach) (at other : ℤ) (room step longest : ℕ) → 0 < reach.change → pos room ≡ reach.highest -ℤ at
    → IsLongest reach.change room step longest → StopsInTime reach (at +ℤ other) other
    → ((other ≤ℤ pos longest) × (pos longest ≤ℤ pos step)) ⊎ ((pos step ≤ℤ pos longest) × (pos longest ≤ℤ other))
up_between reach at (negsuc n) room step longest some is_room is stop =
    inl (omega (arith, ints), omega (arith, ints, is.no_more))
up_between reach at (pos n) room step longest some is_room is stop = elim (cases_lt longest n) [
  | inr no_farther ↦ inl (omega (arith, ints, no_farther), omega (arith, ints, is.no_more))
  | inl farther ↦ elim (cases_lt longest step) [
    | inl shorter ↦
        let none = no_room reach.change room step longest n some is shorter farther in
        absurd (omega (arith, ints, none, stop, is_room))
    | inr whole ↦ inr (omega (arith, ints, whole), omega (arith, ints, farther))
  ]
]

-- a step up that is as long as there is room for is cut
pub cut_up : (reach : Reach) (at : ℤ) (room step longest : ℕ) → 0 < reach.change → pos room ≡ reach.highest -ℤ at
    → IsLongest reach.change room step longest → IsCut reach at (pos step) (pos longest)
cut_up reach at room step longest some is_room is = record {
  stops = omega (arith, ints, is_room, is.fits);
  between = λ other stop. up_between reach at other room step longest some is_room is stop;
}

down_between : (reach : Reach) (at other : ℤ) (room step longest : ℕ) → 0 < reach.change → pos room ≡ at -ℤ reach.lowest
    → IsLongest reach.change room step longest → StopsInTime reach (at +ℤ other) other
    → ((other ≤ℤ neg_ℤ (pos longest)) × (neg_ℤ (pos longest) ≤ℤ neg_ℤ (pos step)))
    ⊎ ((neg_ℤ (pos step) ≤ℤ neg_ℤ (pos longest)) × (neg_ℤ (pos longest) ≤ℤ other))
down_between reach at (pos n) room step longest some is_room is stop =
    inr (omega (arith, ints, is.no_more), omega (arith, ints))
down_between reach at (negsuc n) room step longest some is_room is stop = elim (cases_lt longest (suc n)) [
  | inr no_farther ↦ inr (omega (arith, ints, is.no_more), omega (arith, ints, no_farther))
  | inl farther ↦ elim (cases_lt longest step) [
    | inl shorter ↦
        let none = no_room reach.change room step longest (suc n) some is shorter farther in
        absurd (omega (arith, ints, none, stop, is_room))
    | inr whole ↦ inl (omega (arith, ints, farther), omega (arith, ints, whole))
  ]
]

-- a step down of so many micro-units can stop if its way has room
pub down_stops : (reach : Reach) (at : ℤ) (n : ℕ) → at ≤ℤ reach.highest
    → reach.lowest ≤ℤ (at -ℤ pos (n + way_after reach.change n))
    → StopsInTime reach (at +ℤ neg_ℤ (pos n)) (neg_ℤ (pos n))
down_stops reach at zero below room = omega (arith, ints, below)
down_stops reach at (suc n) below room = omega (arith, ints, room)

pub cut_down : (reach : Reach) (at : ℤ) (room step longest : ℕ) → 0 < reach.change → at ≤ℤ reach.highest
    → pos room ≡ at -ℤ reach.lowest → IsLongest reach.change room step longest
    → IsCut reach at (neg_ℤ (pos step)) (neg_ℤ (pos longest))
cut_down reach at room step longest some below is_room is = record {
  stops = down_stops reach at longest below (omega (arith, ints, is_room, is.fits));
  between = λ other stop. down_between reach at other room step longest some is_room is stop;
}

-- ---- The nearest

-- the wanted step brought between them
abbrev pub tried_of : Reach → ℤ → ℤ → ℤ
tried_of reach last wanted = int_min (int_max wanted (least_of reach last)) (most_of reach last)

lies_within : (reach : Reach) (at last s : ℤ) → IsFeasible reach at last s
    → (least_of reach last ≤ℤ s) × (s ≤ℤ most_of reach last)
lies_within reach at last s feasible = (
  omega (arith, ints, clamps, feasible.no_longer, feasible.near_last),
  omega (arith, ints, clamps, feasible.no_longer, feasible.near_last),
)

-- what lies between a number and what is nearest to a wanted one is no farther from the wanted one than the number
no_farther : (least most wanted step other : ℤ) → least ≤ℤ other → other ≤ℤ most
    → ((other ≤ℤ step) × (step ≤ℤ int_min (int_max wanted least) most))
    ⊎ ((int_min (int_max wanted least) most ≤ℤ step) × (step ≤ℤ other))
    → nat_abs (step -ℤ wanted) ≤ nat_abs (other -ℤ wanted)
no_farther least most wanted step other low high (inl between) =
    omega (arith, ints, clamps, low, high, between.0, between.1)
no_farther least most wanted step other low high (inr between) =
    omega (arith, ints, clamps, low, high, between.0, between.1)

-- a cut step that speed and change allow is the new step
pub cut_is_new : (reach : Reach) (at last wanted step : ℤ) → 0 < reach.change
    → IsCut reach at (tried_of reach last wanted) step → least_of reach last ≤ℤ step → step ≤ℤ most_of reach last
    → IsNewStep reach at last wanted step
cut_is_new reach at last wanted step some cut low high = inl (record {
  feasible = record {
    no_longer = omega (arith, ints, clamps, low, high);
    near_last = omega (arith, ints, clamps, low, high);
    stops = cut.stops;
    still = λ none. absurd (omega (arith, none, some));
  };
  no_nearer = λ other feasible.
      let within = lies_within reach at last other feasible in
      no_farther (least_of reach last) (most_of reach last) wanted step other within.0 within.1
      (cut.between other feasible.stops);
})

-- what lies between two numbers that are allowed is allowed
allowed : (least most tried step other : ℤ) → least ≤ℤ tried → tried ≤ℤ most → least ≤ℤ other → other ≤ℤ most
    → ((other ≤ℤ step) × (step ≤ℤ tried)) ⊎ ((tried ≤ℤ step) × (step ≤ℤ other)) → (least ≤ℤ step) × (step ≤ℤ most)
allowed least most tried step other low high low' high' (inl between) =
    (omega (arith, ints, low', between.0), omega (arith, ints, high, between.1))
allowed least most tried step other low high low' high' (inr between) =
    (omega (arith, ints, low, between.0), omega (arith, ints, high', between.1))

-- if speed and change do not allow the cut step, no step is feasible
pub none_is_new : (reach : Reach) (at last wanted step : ℤ) → least_of reach last ≤ℤ most_of reach last
    → IsCut reach at (tried_of reach last wanted) step
    → (step <ℤ least_of reach last) ⊎ (most_of reach last <ℤ step) → IsNewStep reach at last wanted (pos 0)
none_is_new reach at last wanted step some cut out = inr (
  refl,
  λ other feasible.
      let within = lies_within reach at last other feasible in
      let inside = allowed (least_of reach last) (most_of reach last) (tried_of reach last wanted) step other
      (nearest_low (least_of reach last) (most_of reach last) wanted some)
      (nearest_high (least_of reach last) (most_of reach last) wanted) within.0 within.1
      (cut.between other feasible.stops) in
      outside (least_of reach last) (most_of reach last) step inside.0 inside.1 out,
)
  where
    nearest_low : (least most wanted : ℤ) → least ≤ℤ most → least ≤ℤ int_min (int_max wanted least) most
    nearest_low least most wanted some = omega (arith, ints, clamps, some)

    nearest_high : (least most wanted : ℤ) → int_min (int_max wanted least) most ≤ℤ most
    nearest_high least most wanted = omega (arith, ints, clamps)

    outside : (least most step : ℤ) → least ≤ℤ step → step ≤ℤ most → (step <ℤ least) ⊎ (most <ℤ step) → ⊥
    outside least most step low high (inl under) = omega (arith, ints, low, under)
    outside least most step low high (inr over) = omega (arith, ints, high, over)

-- the same from the two numbers that speed and change allow
nearest_by : (reach : Reach) (at last wanted least most step : ℤ) → least ≡ least_of reach last
    → most ≡ most_of reach last
    → IsCut reach at (int_min (int_max wanted least) most) step → IsCut reach at (tried_of reach last wanted) step
nearest_by reach at last wanted least most step least_is most_is cut =
    let first : IsCut reach at (int_min (int_max wanted (least_of reach last)) most) step =
    subst (λ (z : ℤ). IsCut reach at (int_min (int_max wanted z) most) step) least_is cut in
    subst (λ (z : ℤ). IsCut reach at (int_min (int_max wanted (least_of reach last)) z) step) most_is first

pub allowed_is_new : (reach : Reach) (at last wanted least most step : ℤ) → 0 < reach.change
    → least ≡ least_of reach last → most ≡ most_of reach last
    → IsCut reach at (int_min (int_max wanted least) most) step → least ≤ℤ step → step ≤ℤ most
    → IsNewStep reach at last wanted step
allowed_is_new reach at last wanted least most step some least_is most_is cut low high =
    cut_is_new reach at last wanted step some (nearest_by reach at last wanted least most step least_is most_is cut)
    (subst (λ (z : ℤ). z ≤ℤ step) least_is low) (subst (λ (z : ℤ). step ≤ℤ z) most_is high)

pub not_allowed : (reach : Reach) (at last wanted least most step : ℤ) → least ≡ least_of reach last
    → most ≡ most_of reach last → least ≤ℤ most
    → IsCut reach at (int_min (int_max wanted least) most) step → (step <ℤ least) ⊎ (most <ℤ step)
    → IsNewStep reach at last wanted (pos 0)
not_allowed reach at last wanted least most step least_is most_is some cut out =
    let ordered : least_of reach last ≤ℤ most_of reach last =
    subst (λ (z : ℤ). least_of reach last ≤ℤ z) most_is (subst (λ (z : ℤ). z ≤ℤ most) least_is some) in
    let outside : (step <ℤ least_of reach last) ⊎ (most_of reach last <ℤ step) =
    subst (λ (z : ℤ). (step <ℤ least_of reach last) ⊎ (z <ℤ step)) most_is
    (subst (λ (z : ℤ). (step <ℤ z) ⊎ (most <ℤ step)) least_is out) in
    none_is_new reach at last wanted step ordered (nearest_by reach at last wanted least most step least_is most_is cut)
    outside

-- the wanted step brought between two numbers, as 64 bits hold it
pub tried_in_bits : (wanted least most max min : ℤ) → nat_abs least ≤ 2 * LARGEST → nat_abs most ≤ 2 * LARGEST
    → to_z w64 (of_z w64 wanted) ≡ wanted
    → max ≡ int_max (to_z w64 (of_z w64 wanted)) (to_z w64 (of_z w64 least))
    → min ≡ int_min (to_z w64 (of_z w64 max)) (to_z w64 (of_z w64 most))
    → to_z w64 (of_z w64 min) ≡ int_min (int_max wanted least) most
tried_in_bits wanted least most max min low high w max_is' min_is' =
    let l : to_z w64 (of_z w64 least) ≡ least = omega (arith, ints, low) in
    let m : to_z w64 (of_z w64 most) ≡ most = omega (arith, ints, high) in
    let max_is : max ≡ int_max wanted least =
    max_is' ∙ ap (λ (z : ℤ). int_max z (to_z w64 (of_z w64 least))) w ∙ ap (λ (z : ℤ). int_max wanted z) l in
    let max_fits : to_z w64 (of_z w64 max) ≡ max = by_lt_z wanted least
    (λ lt. let same : least ≡ max = omega (arith, ints, clamps, max_is, lt) in
    subst (λ (z : ℤ). to_z w64 (of_z w64 z) ≡ z) same l)
    (λ le. let same : wanted ≡ max = omega (arith, ints, clamps, max_is, le) in
    subst (λ (z : ℤ). to_z w64 (of_z w64 z) ≡ z) same w) in
    let min_is : min ≡ int_min max most =
    min_is' ∙ ap (λ (z : ℤ). int_min z (to_z w64 (of_z w64 most))) max_fits ∙ ap (λ (z : ℤ). int_min max z) m in
    let min_fits : to_z w64 (of_z w64 min) ≡ min = by_lt_z max most
    (λ lt. let same : max ≡ min = omega (arith, ints, clamps, min_is, lt) in
    subst (λ (z : ℤ). to_z w64 (of_z w64 z) ≡ z) same max_fits)
    (λ le. let same : most ≡ min = omega (arith, ints, clamps, min_is, le) in
    subst (λ (z : ℤ). to_z w64 (of_z w64 z) ≡ z) same m) in
    min_fits ∙ min_is ∙ ap (λ (z : ℤ). int_min z most) max_is

-- and none is if they allow no step at all
pub nothing_is_new : (reach : Reach) (at last wanted : ℤ) → most_of reach last <ℤ least_of reach last
    → IsNewStep reach at last wanted (pos 0)
nothing_is_new reach at last wanted none = inr (
  refl,
  λ other feasible. let within = lies_within reach at last other feasible in
      absurd (omega (arith, ints, none, within.0, within.1)),
)

-- where nothing may change the new step is none
pub still_is_new : (reach : Reach) (at last wanted : ℤ) → reach.change ≡ 0 → reach.lowest ≤ℤ at → at ≤ℤ reach.highest
    → IsNewStep reach at last wanted (pos 0)
still_is_new reach at last wanted none above below = elim (cases_lt 0 (nat_abs last)) [
  | inl moved ↦ inr (
    refl,
    λ other feasible.
        let other_is = feasible.still none in
        let near = feasible.near_last in
        absurd (omega (arith, ints, near, other_is, none, moved)),
  )
  | inr stood ↦ inl (record {
    feasible = record {
      no_longer = omega (arith, ints);
      near_last = omega (arith, ints, stood);
      stops = omega (arith, ints, below);
      still = λ zero. refl;
    };
    no_nearer = λ other feasible. let other_is = feasible.still none in omega (arith, ints, other_is);
  })
]

-- a new step is no longer than two ends of the range are apart
pub new_is_small : (reach : Reach) (at last wanted step : ℤ) → IsCapped reach → IsNewStep reach at last wanted step
    → nat_abs step ≤ 2 * LARGEST
new_is_small reach at last wanted step fits (inl nearest) = omega (arith, nearest.feasible.no_longer, fits.longest)
new_is_small reach at last wanted step fits (inr none) = let is = none.0 in omega (arith, ints, is)

-- ---- Limits that are too large to matter

same_way : (a s : ℕ) → s ≤ 2 * LARGEST → way_after (min a (4 * LARGEST)) s ≡ way_after a s
same_way a s small = elim (cases_lt a (4 * LARGEST)) [
  | inl less ↦ let same : min a (4 * LARGEST) ≡ a = omega (arith, less) in ap (λ k. way_after k s) same
  | inr more ↦ slow_none (min a (4 * LARGEST)) s s (omega (arith, small, more))
      ∙ sym (slow_none a s s (omega (arith, small, more)))
]

-- a place between two ends of the range, after a step between them
pub record IsBetween (reach : Reach) (at last : ℤ) : Type 0 where
  pub low : IsInRange reach.lowest
  pub high : IsInRange reach.highest
  pub above : reach.lowest ≤ℤ at
  pub below : at ≤ℤ reach.highest
  pub short : nat_abs last ≤ 2 * LARGEST

same_stop : (reach : Reach) (to s : ℤ) → nat_abs s ≤ 2 * LARGEST → StopsInTime reach to s
    → StopsInTime (capped reach) to s
same_stop reach to (pos n) small stop = rw (same_way reach.change n (omega (arith, ints, small))) stop
same_stop reach to (negsuc n) small stop = rw (same_way reach.change (suc n) (omega (arith, ints, small))) stop

back_stop : (reach : Reach) (to s : ℤ) → nat_abs s ≤ 2 * LARGEST → StopsInTime (capped reach) to s
    → StopsInTime reach to s
back_stop reach to (pos n) small stop = rw (sym (same_way reach.change n (omega (arith, ints, small)))) stop
back_stop reach to (negsuc n) small stop = rw (sym (same_way reach.change (suc n) (omega (arith, ints, small)))) stop

-- a step that can stop before an end is no longer than the ends are apart
stop_is_short : (reach : Reach) (at last s : ℤ) → IsBetween reach at last → StopsInTime reach (at +ℤ s) s
    → nat_abs s ≤ 2 * LARGEST
stop_is_short reach at last (pos n) here stop = omega (arith, ints, here.low.0, here.high.1, here.above, stop)
stop_is_short reach at last (negsuc n) here stop = omega (arith, ints, here.low.0, here.high.1, here.below, stop)

to_capped : (reach : Reach) (at last s : ℤ) → IsBetween reach at last → IsFeasible reach at last s
    → IsFeasible (capped reach) at last s
to_capped reach at last s here feasible =
    let short = stop_is_short reach at last s here feasible.stops in
    record {
      no_longer = omega (arith, short, feasible.no_longer);
      near_last = omega (arith, ints, short, here.short, feasible.near_last);
      stops = same_stop reach (at +ℤ s) s short feasible.stops;
      still = λ none. feasible.still (omega (arith, none));
    }

from_capped : (reach : Reach) (at last s : ℤ) → IsFeasible (capped reach) at last s → IsFeasible reach at last s
from_capped reach at last s feasible = record {
  no_longer = omega (arith, feasible.no_longer);
  near_last = omega (arith, feasible.near_last);
  stops = back_stop reach (at +ℤ s) s (omega (arith, feasible.no_longer)) feasible.stops;
  still = λ none. feasible.still (omega (arith, none));
}

pub same_new : (reach : Reach) (at last wanted s : ℤ) → IsBetween reach at last
    → IsNewStep (capped reach) at last wanted s → IsNewStep reach at last wanted s
same_new reach at last wanted s here (inl nearest) = inl (record {
  feasible = from_capped reach at last s nearest.feasible;
  no_nearer = λ other feasible. nearest.no_nearer other (to_capped reach at last other here feasible);
})
same_new reach at last wanted s here (inr none) =
    inr (none.0, λ other feasible. none.1 other (to_capped reach at last other here feasible))

-- ---- Where a new step leads

-- from a place between the ends it leads to another
pub feasible_stays : (reach : Reach) (at last s : ℤ) → reach.lowest ≤ℤ at → at ≤ℤ reach.highest
    → IsFeasible reach at last s → (reach.lowest ≤ℤ (at +ℤ s)) × ((at +ℤ s) ≤ℤ reach.highest)
feasible_stays reach at last (pos n) above below feasible =
    let stop = feasible.stops in
    (omega (arith, ints, above), omega (arith, ints, stop))
feasible_stays reach at last (negsuc n) above below feasible =
    let stop = feasible.stops in
    (omega (arith, ints, stop), omega (arith, ints, below))

pub new_stays : (reach : Reach) (at last wanted s : ℤ) → reach.lowest ≤ℤ at → at ≤ℤ reach.highest
    → IsNewStep reach at last wanted s → (reach.lowest ≤ℤ (at +ℤ s)) × ((at +ℤ s) ≤ℤ reach.highest)
new_stays reach at last wanted s above below (inl nearest) = feasible_stays reach at last s above below nearest.feasible
new_stays reach at last wanted s above below (inr none) =
    let is = none.0 in
    (omega (arith, ints, is, above), omega (arith, ints, is, below))

-- and so to a number of the range
pub new_lands : (reach : Reach) (at last wanted s : ℤ) → IsCapped reach → reach.lowest ≤ℤ at → at ≤ℤ reach.highest
    → IsNewStep reach at last wanted s → IsInRange (at +ℤ s)
new_lands reach at last wanted s fits above below new =
    let stays = new_stays reach at last wanted s above below new in
    (omega (arith, ints, stays.0, fits.lowest.0), omega (arith, ints, stays.1, fits.highest.1))

-- a run with limits that are too large to matter is a run with the limits as they are
pub same_run : (reach : Reach) (at last : ℤ) (wanted : List Value) (outs : List ℤ) → IsBetween reach at last
    → IsRun (capped reach) at last wanted outs → IsRun reach at last wanted outs
same_run reach at last [] [] here run = tt
same_run reach at last [] (out ∷ outs) here run = absurd run
same_run reach at last (w ∷ wanted) [] here run = absurd run
same_run reach at last (w ∷ wanted) (out ∷ outs) here run =
    let step = same_new reach at last (wanted_step reach at w) (out -ℤ at) here run.0 in
    let stays = new_stays reach at last _ (out -ℤ at) here.above here.below step in
    let next : IsBetween reach out (out -ℤ at) = record {
      low = here.low;
      high = here.high;
      above = omega (arith, ints, stays.0);
      below = omega (arith, ints, stays.1);
      short = omega (arith, ints, stays.0, stays.1, here.above, here.below, here.low.0, here.high.1);
    } in
    (step, same_run reach out (out -ℤ at) wanted outs next run.1)

-- ---- A run, step by step

-- each way to go on after one step more is a way to go on with this step
pub run_more : (reach : Reach) (start at last : ℤ) (wanted left : List Value) (outs : List ℤ) (w : Value) (next : ℤ)
    → ((more : List ℤ) → IsRun reach at last (w ∷ left) more → IsRunFrom reach start wanted (outs ++ more))
    → IsNewStep reach at last (wanted_step reach at w) (next -ℤ at)
    → (more : List ℤ) → IsRun reach next (next -ℤ at) left more
    → IsRunFrom reach start wanted ((outs ++ next ∷ []) ++ more)
run_more reach start at last wanted left outs w next so_far step more rest =
    subst (λ (xs : List ℤ). IsRunFrom reach start wanted xs) (sym (append_assoc outs (next ∷ []) more))
    (so_far (next ∷ more) (step, rest))

-- it begins with every way to go on from the start
pub run_begins : (reach : Reach) (start at : ℤ) (wanted : List Value) (outs more : List ℤ) → at ≡ brought reach start
    → outs ≡ []
    → IsRun reach at (at -ℤ at) wanted more → IsRunFrom reach start wanted (outs ++ more)
run_begins reach start at wanted outs more is none run =
    let still : at -ℤ at ≡ pos 0 = omega (arith, ints) in
    let stands : IsRun reach at (pos 0) wanted more = subst (λ (z : ℤ). IsRun reach at z wanted more) still run in
    let begun : IsRunFrom reach start wanted more = subst (λ (z : ℤ). IsRun reach z (pos 0) wanted more) is stands in
    subst (λ (xs : List ℤ). IsRunFrom reach start wanted (xs ++ more)) (sym none) begun

-- if nothing is left it is a run, also with the limits as they are
pub run_done : (reach limiter : Reach) (start at last : ℤ) (wanted : List Value) (outs : List ℤ)
    → limiter ≡ capped reach → IsCapped limiter → reach.lowest ≤ℤ reach.highest
    → ((more : List ℤ) → IsRun limiter at last [] more → IsRunFrom limiter start wanted (outs ++ more))
    → IsRunFrom reach start wanted outs
run_done reach limiter start at last wanted outs is fits ordered so_far =
    let whole : IsRunFrom limiter start wanted outs =
    subst (λ (xs : List ℤ). IsRunFrom limiter start wanted xs) (append-nil outs) (so_far [] tt) in
    let run : IsRunFrom (capped reach) start wanted outs =
    subst (λ (r : Reach). IsRunFrom r start wanted outs) is whole in
    let ends : IsCapped (capped reach) = subst (λ (r : Reach). IsCapped r) is fits in
    let here : IsBetween reach (brought reach start) (pos 0) = record {
      low = ends.lowest;
      high = ends.highest;
      above = omega (arith, ints, clamps, ordered);
      below = omega (arith, ints, clamps, ordered);
      short = omega (arith, ints);
    } in
    same_run reach (brought reach start) (pos 0) wanted outs here run
