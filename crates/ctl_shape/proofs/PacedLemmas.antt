-- A limiter for the time between two updates makes the new step of the table.
use Rattle.std.proofs.Common.{◌≡◌, ℕ, ◌*◌, ◌≤◌, ℤ, ◌+ℤ◌, ◌-ℤ◌, ◌≤ℤ◌, nat_abs, Bool}
use Rattle.std.proofs.Common.{true, false, [], ◌∷◌, inl, inr, ap, subst, ◌∙◌, arith}
use Rattle.std.specs.Prelude.{if◌then◌else◌}
use Rattle.std.proofs.lemmas.Int.{ints}
use Rattle.fixed_num.specs.Micro.{IsInRange, clamped}
use Rattle.fixed_num.specs.declared.TheConstants.{MICRO, LARGEST}
use Rattle.fixed_num.specs.declared.value.Value.{Value}
use Rattle.fixed_num.specs.declared.value.Value.TheVariants.{Num}
use Rattle.fixed_num.proofs.ArithmeticLemmas.{change_no_more, clamped_in_range}
use Rattle.cm_model.specs.Controllers.{Updated, wanted, limiter_update}
use Rattle.cm_model.specs.Limiters.{Bounds, Reach, reach_of, wanted_step, new_step}
use Rattle.cm_model.specs.declared.data.RunData.TheVariants as run
use Rattle.ctl_shape.specs.Capped.{capped}
use Rattle.ctl_shape.specs.Controllers.{IsPaced, CanBeLed, IsLedTo, at_pace, limiter_step}
use Rattle.ctl_shape.specs.Limiters.{IsNewStep, bounds_in, reach_in}
use Rattle.ctl_shape.specs.declared.controllers.led.Led.{Led}
use Rattle.ctl_shape.specs.declared.limits.Limits.{Limits}
use Rattle.ctl_shape.proofs.SearchLemmas.{search_finds, new_is_found}
use Rattle.ctl_shape.proofs.StepLemmas.{IsBetween, same_new}

-- the place to which the limiter of these limits leads is one new step of the table further
leads_by_table : (limits : Limits) (limiter : Reach) (at last : ℤ) (wanted : Value) (out : ℤ) → IsPaced limits limiter
    → limits.min ≤ℤ at → at ≤ℤ limits.max → nat_abs last ≤ 2 * LARGEST
    → IsNewStep limiter at last (wanted_step limiter at wanted) (out -ℤ at)
    → out ≡ at +ℤ new_step (reach_in limits) at last (wanted_step (reach_in limits) at wanted)
leads_by_table limits limiter at last wanted out paced above below short step =
    let reach = reach_in limits in
    let here : IsBetween reach at last = record {
      low = paced.low;
      high = paced.high;
      above = above;
      below = below;
      short = short;
    } in
    let cut : IsNewStep (capped reach) at last (wanted_step reach at wanted) (out -ℤ at) =
    subst (λ (r : Reach). IsNewStep r at last (wanted_step r at wanted) (out -ℤ at)) paced.limiter_is step in
    let is = new_is_found reach at last (wanted_step reach at wanted) (out -ℤ at)
    (same_new reach at last (wanted_step reach at wanted) (out -ℤ at) here cut) in
    omega (arith, ints, is)

-- a new step is no longer than the speed is large, in at most a second
short_step : (bounds : Bounds) (dt_us : ℕ) (at last wanted step : ℤ) → dt_us ≤ MICRO → IsInRange bounds.speed
    → IsNewStep (reach_of bounds dt_us) at last wanted step → IsInRange step
short_step bounds dt_us at last wanted step short fits (inl nearest) =
    let long = nearest.feasible.no_longer in
    let less = change_no_more bounds.speed dt_us short in
    (omega (arith, ints, fits.0, fits.1, long, less), omega (arith, ints, fits.0, fits.1, long, less))
short_step bounds dt_us at last wanted step short fits (inr none) =
    let is = none.0 in (omega (arith, ints, is), omega (arith, ints, is))

step_fits : (bounds : Bounds) (dt_us : ℕ) (at last wanted : ℤ) → dt_us ≤ MICRO → IsInRange bounds.speed
    → IsInRange (new_step (reach_of bounds dt_us) at last wanted)
step_fits bounds dt_us at last wanted short fits =
    short_step bounds dt_us at last wanted (new_step (reach_of bounds dt_us) at last wanted) short fits
    (search_finds (reach_of bounds dt_us) at last wanted)

-- So a place to which the limiter of these limits leads is where the table leads, and the step is a number of the
-- range.
pub leads_to : (limits : Limits) (limiter : Reach) (at last : ℤ) (wanted : Value) (out : ℤ) → IsPaced limits limiter
    → CanBeLed limits at limits.dt_us → IsInRange last → limiter.lowest ≤ℤ out → out ≤ℤ limiter.highest
    → IsNewStep limiter at last (wanted_step limiter at wanted) (out -ℤ at) → IsLedTo limits at last wanted out
leads_to limits limiter at last wanted out paced can fits low high step =
    let led = leads_by_table limits limiter at last wanted out paced can.above can.below
    (omega (arith, ints, fits.0, fits.1)) step in
    let small = step_fits (bounds_in limits) limits.dt_us at last (wanted_step (reach_in limits) at wanted)
    can.no_longer paced.fast in
    record {
      led = led;
      fits = (omega (arith, ints, led, small.0), omega (arith, ints, led, small.1));
      above = subst (λ (r : Reach). r.lowest ≤ℤ out) paced.limiter_is low;
      below = subst (λ (r : Reach). out ≤ℤ r.highest) paced.limiter_is high;
    }

-- ---- An update

-- it leaves this and gives this output
abbrev Leaves : Updated → Bool → Value → ℤ → ℤ → Type 0
Leaves given chained set place step = (run.Limiter chained set place step ≡ given.run) × (Num place ∷ [] ≡ given.outs)

-- one new step towards this target
led_on : (bounds : Bounds) (chained : Bool) (set : Value) (at last : ℤ) (dt_us : ℕ) (target : Value) (place step : ℤ)
    → place ≡ at +ℤ new_step (reach_of bounds dt_us) at last (wanted_step (reach_of bounds dt_us) at target)
    → step ≡ place -ℤ at
    → Leaves (limiter_update bounds chained set at last dt_us (target ∷ [])) chained set place step
led_on bounds chained set at last dt_us target place step led step_is =
    let next = new_step (reach_of bounds dt_us) at last (wanted_step (reach_of bounds dt_us) at target) in
    let made : step ≡ next = omega (arith, ints, led, step_is) in (
      ap (λ (z : ℤ). run.Limiter chained set z step) led ∙ ap (λ (z : ℤ). run.Limiter chained set (at +ℤ next) z) made,
      ap (λ (z : ℤ). Num z ∷ []) led,
    )

led_by : (limits : Limits) (chained : Bool) (set : Value) (at last : ℤ) (dt_us : ℕ) (reference target : Value)
    (place step : ℤ)
    → target ≡ (if chained then reference else set) → IsLedTo (at_pace limits dt_us) at last target place
    → step ≡ place -ℤ at
    → Leaves (limiter_update (bounds_in limits) chained set at last dt_us (wanted chained (reference ∷ []) (set ∷ [])))
    chained set place step
led_by limits true set at last dt_us reference target place step is to step_is =
    let led = subst (λ (t : Value). IsLedTo (at_pace limits dt_us) at last t place) is to in
    led_on (bounds_in limits) true set at last dt_us reference place step led.led step_is
led_by limits false set at last dt_us reference target place step is to step_is =
    let led = subst (λ (t : Value). IsLedTo (at_pace limits dt_us) at last t place) is to in
    led_on (bounds_in limits) false set at last dt_us set place step led.led step_is

-- what an update keeps and gives, where it went one new step on, is what the table says
pub update_is : (before : Limits) (led : Led) (dt_us : ℕ) (reference target : Value) (place step : ℤ)
    → target ≡ (if led.chained then reference else led.set)
    → IsLedTo (at_pace before dt_us) led.at led.step target place → step ≡ clamped (place -ℤ led.at)
    → Leaves (limiter_step before led dt_us reference) led.chained led.set place step
update_is before led dt_us reference target place step is to step_is =
    led_by before led.chained led.set led.at led.step dt_us reference target place step is to
    (step_is ∙ clamped_in_range (place -ℤ led.at) (omega (arith, ints, to.fits.0, to.fits.1)))
