-- Every update of a limiter keeps its limits, and so does every run of them.
use Rattle.std.proofs.Common.{◌≡◌, ℕ, ℤ, pos, ◌+ℤ◌, ◌-ℤ◌, Bool, true, false, List, [], ◌∷◌}
use Rattle.std.proofs.Common.{map, Option, Some, None, refl, sym, subst, ap, ◌∙◌, arith}
use Rattle.std.proofs.lemmas.Int.{ints}
use Rattle.fixed_num.specs.declared.value.Value.{Value}
use Rattle.fixed_num.specs.declared.value.Value.TheVariants.{Unset, Num}
use Rattle.cm_document.specs.declared.call.Mail.{Mail}
use Rattle.cm_document.specs.declared.call.Mail.TheVariants.{Values, Points}
use Rattle.cm_model.specs.Controllers.{Updated, first_state, started, wanted, limiter_update, updated}
use Rattle.cm_model.specs.Limiters.{Bounds, Reach, reach_of, brought, wanted_step, new_step}
use Rattle.cm_model.specs.declared.data.RunData.TheVariants as run
use Rattle.cm_model.specs.declared.tick.Tick.{Tick}
use Rattle.ctl_shape.specs.Controllers.{AreBounds, bounds_params}
use Rattle.ctl_shape.specs.Limiters.{IsFeasible, IsSafe, KeepsLimits}
use Rattle.ctl_shape.specs.Updates.{RunsSafely, UpdateKeepsLimits, Input, with_any_mail, all_given, RunKeepsLimits}
use Rattle.ctl_shape.proofs.LimitLemmas.{begins_safe, feasible_is_safe, new_is_feasible}
use Rattle.ctl_shape.proofs.SearchLemmas.{search_finds}

-- ---- One step

-- the step to a place is what led there
step_to : (at step : ℤ) → (at +ℤ step) -ℤ at ≡ step
step_to at step = omega (arith, ints)

-- a feasible step from a safe place leads to one,
step_is_safe : (reach : Reach) (at last step : ℤ) → IsSafe reach at last → IsFeasible reach at last step
    → IsSafe reach (at +ℤ step) step
step_is_safe reach at last step safe feasible =
    let led = subst (λ z. IsFeasible reach at last z) (sym (step_to at step)) feasible in
    subst (λ z. IsSafe reach (at +ℤ step) z) (step_to at step) (feasible_is_safe reach at last (at +ℤ step) safe led)

-- and its output keeps the limits
step_keeps : (reach : Reach) (at last step : ℤ) → IsSafe reach at last → IsFeasible reach at last step
    → KeepsLimits reach at last (at +ℤ step)
step_keeps reach at last step safe feasible =
    let led = subst (λ z. IsFeasible reach at last z) (sym (step_to at step)) feasible in
    let next = step_is_safe reach at last step safe feasible in
    record {
      feasible = led;
      above = next.above;
      below = next.below;
      speed = led.no_longer;
      acceleration = led.near_last;
    }

-- ---- An update

update_to : (bounds : Bounds) (chained : Bool) (set : Value) (at step : ℤ) (dt_us : ℕ) (target : Value)
    (targets : List Value) → IsSafe (reach_of bounds dt_us) at step
    → UpdateKeepsLimits (reach_of bounds dt_us) at step
    (limiter_update bounds chained set at step dt_us (target ∷ targets))
update_to bounds chained set at step dt_us target targets safe =
    let reach = reach_of bounds dt_us in
    let wanted = wanted_step reach at target in
    let next = new_step reach at step wanted in
    let feasible = new_is_feasible reach at step wanted next safe (search_finds reach at step wanted) in
    record {
      out = at +ℤ next;
      gives_one = refl;
      keeps = step_keeps reach at step next safe feasible;
      goes_on = step_is_safe reach at step next safe feasible;
    }

pub limiter_keeps : (bounds : Bounds) (chained : Bool) (set : Value) (at step : ℤ) (tick : Tick) (states : List ℤ)
    (reference : Value) → IsSafe (reach_of bounds tick.dt_us) at step
    → UpdateKeepsLimits (reach_of bounds tick.dt_us) at step
    (updated (bounds_params bounds) (run.Limiter chained set at step) tick states (reference ∷ []))
limiter_keeps bounds true set at step tick states reference safe =
    update_to bounds true set at step tick.dt_us reference [] safe
limiter_keeps bounds false set at step tick states reference safe =
    update_to bounds false set at step tick.dt_us set [] safe

-- what is activated stands still between the ends
pub limiter_begins : (bounds : Bounds) (dt_us : ℕ) (states : List ℤ) (chained : Bool) → AreBounds bounds
    → RunsSafely (reach_of bounds dt_us) (started (bounds_params bounds) states chained)
limiter_begins bounds dt_us states chained sound = begins_safe (reach_of bounds dt_us) (first_state states) sound.ends

-- ---- A run of updates

-- one output that keeps the limits, and those of a run that goes on from there
one_more : (reach : Reach) (at last out : ℤ) (given : Updated) (later : List Updated) → given.outs ≡ Num out ∷ []
    → KeepsLimits reach at last out
    → RunKeepsLimits reach out (out -ℤ at) later → RunKeepsLimits reach at last (given ∷ later)
one_more reach at last out given later one keeps rest = record {
  outs = out ∷ rest.outs;
  gives_one_each =
      ap (λ outs. outs ∷ map (λ it. it.outs) later) one ∙ ap (λ others. (Num out ∷ []) ∷ others) rest.gives_one_each;
  keeps = (keeps, rest.keeps);
}

-- from every safe place, whatever is set, a run with these inputs keeps the limits
abbrev KeepsFromThere : Bounds → ℕ → Bool → List Input → Type 0
KeepsFromThere bounds dt_us chained inputs =
    (set : Value) (at last : ℤ) → IsSafe (reach_of bounds dt_us) at last
    → RunKeepsLimits (reach_of bounds dt_us) at last (all_given bounds dt_us (run.Limiter chained set at last) inputs)

-- an update that gives this keeps them, and so does the run behind it
abbrev KeepsOn : Bounds → ℕ → ℤ → ℤ → Updated → List Input → Type 0
KeepsOn bounds dt_us at last given inputs =
    RunKeepsLimits (reach_of bounds dt_us) at last (given ∷ all_given bounds dt_us given.run inputs)

target_keeps : (bounds : Bounds) (dt_us : ℕ) (chained : Bool) (set : Value) (at last : ℤ) (target : Value)
    (inputs : List Input) → IsSafe (reach_of bounds dt_us) at last
    → KeepsFromThere bounds dt_us chained inputs
    → KeepsOn bounds dt_us at last (limiter_update bounds chained set at last dt_us (target ∷ [])) inputs
target_keeps bounds dt_us chained set at last target inputs safe later =
    let reach = reach_of bounds dt_us in
    let wished = wanted_step reach at target in
    let next = new_step reach at last wished in
    let given = limiter_update bounds chained set at last dt_us (target ∷ []) in
    let feasible = new_is_feasible reach at last wished next safe (search_finds reach at last wished) in
    let rest = later set (at +ℤ next) next (step_is_safe reach at last next safe feasible) in
    one_more reach at last (at +ℤ next) given (all_given bounds dt_us given.run inputs) refl
    (step_keeps reach at last next safe feasible)
    (subst (λ z. RunKeepsLimits reach (at +ℤ next) z (all_given bounds dt_us given.run inputs)) (sym (step_to at next))
    rest)

-- it goes for its reference where it is chained, else for what is set
input_keeps : (bounds : Bounds) (dt_us : ℕ) (chained : Bool) (set : Value) (at last : ℤ) (reference : Value)
    (inputs : List Input) → IsSafe (reach_of bounds dt_us) at last
    → KeepsFromThere bounds dt_us chained inputs
    → KeepsOn bounds dt_us at last
    (limiter_update bounds chained set at last dt_us (wanted chained (reference ∷ []) (set ∷ []))) inputs
input_keeps bounds dt_us true set at last reference inputs safe later =
    target_keeps bounds dt_us true set at last reference inputs safe later
input_keeps bounds dt_us false set at last reference inputs safe later =
    target_keeps bounds dt_us false set at last set inputs safe later

-- mail sets a value at most
mail_keeps : (bounds : Bounds) (dt_us : ℕ) (chained : Bool) (set : Value) (at last : ℤ) (input : Input)
    (inputs : List Input) (letter : Option Mail) → IsSafe (reach_of bounds dt_us) at last
    → KeepsFromThere bounds dt_us chained inputs
    → KeepsOn bounds dt_us at last
    (updated (bounds_params bounds) (with_any_mail (run.Limiter chained set at last) letter)
    (record { cycle = input.cycle; time_us = input.time_us; dt_us = dt_us }) input.states
    (input.reference ∷ []))
    inputs
mail_keeps bounds dt_us chained set at last input inputs None safe later =
    input_keeps bounds dt_us chained set at last input.reference inputs safe later
mail_keeps bounds dt_us chained set at last input inputs (Some (Values [])) safe later =
    input_keeps bounds dt_us chained set at last input.reference inputs safe later
mail_keeps bounds dt_us chained set at last input inputs (Some (Values (value ∷ values))) safe later =
    input_keeps bounds dt_us chained (Num value) at last input.reference inputs safe later
mail_keeps bounds dt_us chained set at last input inputs (Some (Points points)) safe later =
    input_keeps bounds dt_us chained set at last input.reference inputs safe later

inputs_keep : (bounds : Bounds) (dt_us : ℕ) (chained : Bool) (inputs : List Input)
    → KeepsFromThere bounds dt_us chained inputs
inputs_keep bounds dt_us chained [] set at last safe = record { outs = []; gives_one_each = refl; keeps = tt }
inputs_keep bounds dt_us chained (input ∷ inputs) set at last safe =
    mail_keeps bounds dt_us chained set at last input inputs input.mail safe (inputs_keep bounds dt_us chained inputs)

-- every run of updates behind an activation keeps the limits
pub run_keeps : (bounds : Bounds) (dt_us : ℕ) (states : List ℤ) (chained : Bool) (inputs : List Input)
    → AreBounds bounds
    → RunKeepsLimits (reach_of bounds dt_us) (brought (reach_of bounds dt_us) (first_state states)) (pos 0)
    (all_given bounds dt_us (started (bounds_params bounds) states chained) inputs)
run_keeps bounds dt_us states chained inputs sound =
    inputs_keep bounds dt_us chained inputs Unset (brought (reach_of bounds dt_us) (first_state states)) (pos 0)
    (begins_safe (reach_of bounds dt_us) (first_state states) sound.ends)
