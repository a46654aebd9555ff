-- What the controllers keep, seen as the data of a controller.
use Rattle.std.specs.Prelude.{◌≡◌, ℕ, ◌≤◌, ℤ, pos, ◌+ℤ◌, ◌-ℤ◌, ◌≤ℤ◌, Bool, [], ◌∷◌, Option, Some, None, option_map}
use Rattle.std.specs.Prelude.{IfSome}
use Rattle.fixed_num.specs.Micro.{IsInRange}
use Rattle.fixed_num.specs.declared.value.Value.{Value}
use Rattle.fixed_num.specs.declared.value.Value.TheVariants.{Unset, Num}
use Rattle.cm_document.specs.declared.description.CtlKind.TheVariants as kind
use Rattle.cm_document.specs.declared.description.Params.{Params}
use Rattle.cm_document.specs.declared.description.Params.TheVariants as params
use Rattle.cm_model.specs.Controllers.{Updated, wanted, limiter_update}
use Rattle.cm_model.specs.Limiters.{Bounds, Reach, between, wanted_step, new_step}
use Rattle.cm_model.specs.declared.tick.TheConstants.{LONGEST_PERIOD}
use Rattle.cm_model.specs.State.{fresh}
use Rattle.cm_model.specs.Transmissions.{Gear, Pair}
use Rattle.cm_model.specs.declared.data.CtlData.{CtlData}
use Rattle.cm_model.specs.declared.data.RunData.{RunData}
use Rattle.cm_model.specs.declared.data.RunData.TheVariants as run
use Rattle.ctl_shape.specs.Capped.{capped}
use Rattle.ctl_shape.specs.Limiters.{bounds_in, reach_in}
use Rattle.ctl_shape.specs.declared.controllers.differential.Coupled.{Coupled}
use Rattle.ctl_shape.specs.declared.controllers.differential.SetTwo.{SetTwo}
use Rattle.ctl_shape.specs.declared.controllers.led.Led.{Led}
use Rattle.ctl_shape.specs.declared.controllers.transmission.Geared.{Geared}
use Rattle.ctl_shape.specs.declared.controllers.transmission.SetOne.{SetOne}
use Rattle.ctl_shape.specs.declared.limits.Limits.{Limits}

-- ---- Transmissions

-- the parameters of a gear
abbrev pub gear_params : Gear → Params
gear_params gear = params.Transmission gear.kind gear.reduction gear.offset

-- the running part over one value
abbrev pub running_one : SetOne → RunData
running_one r = run.Set r.chained (r.set ∷ [])

abbrev pub transmission_data : Option Geared → CtlData
transmission_data None = fresh kind.Transmission
transmission_data (Some kept) = record {
  kind = kind.Transmission;
  params = Some (gear_params kept.gear);
  run = option_map running_one kept.run;
}

-- the parameters of a differential
abbrev pub pair_params : Pair → Params
pair_params pair =
    params.Differential pair.kind pair.reductions.0 pair.reductions.1 pair.offsets.0 pair.offsets.1

-- the running part over two values
abbrev pub running_two : SetTwo → RunData
running_two r = run.Set r.chained (r.first ∷ r.second ∷ [])

abbrev pub differential_data : Option Coupled → CtlData
differential_data None = fresh kind.Differential
differential_data (Some kept) = record {
  kind = kind.Differential;
  params = Some (pair_params kept.pair);
  run = option_map running_two kept.run;
}

-- ---- Limiters

-- The bounds can be kept: the ends are in order, and no limit is negative.
pub record AreBounds (bounds : Bounds) : Type 0 where
  pub ends : bounds.lowest ≤ℤ bounds.highest
  pub speed : pos 0 ≤ℤ bounds.speed
  pub acceleration : pos 0 ≤ℤ bounds.acceleration

-- the parameters of a limiter
abbrev pub bounds_params : Bounds → Params
bounds_params bounds = params.Limiter bounds.lowest bounds.highest bounds.speed bounds.acceleration

-- a limiter is that of these limits, which can be kept
pub record IsPaced (limits : Limits) (limiter : Reach) : Type 0 where
  pub bounds : AreBounds (bounds_in limits)
  pub low : IsInRange limits.min
  pub high : IsInRange limits.max
  pub fast : IsInRange limits.vmax
  pub limiter_is : limiter ≡ capped (reach_in limits)

-- What a configured limiter keeps: its limits, with the time of the last update, and what runs.
pub record Limited : Type 0 where
  pub limits : Limits
  pub run : Option Led

-- where it has led lies between the ends
pub record IsLedBetween (limits : Limits) (led : Led) : Type 0 where
  pub above : limits.min ≤ℤ led.at
  pub below : led.at ≤ℤ limits.max

abbrev pub IsLimited : Limited → Type 0
IsLimited kept = IfSome kept.run (IsLedBetween kept.limits)

-- its running part
abbrev pub running_led : Led → RunData
running_led led = run.Limiter led.chained led.set led.at led.step

abbrev pub limiter_data : Option Limited → CtlData
limiter_data None = fresh kind.Limiter
limiter_data (Some kept) = record {
  kind = kind.Limiter;
  params = Some (bounds_params (bounds_in kept.limits));
  run = option_map running_led kept.run;
}

-- the same limits, for another time between two updates
abbrev pub at_pace : Limits → ℕ → Limits
at_pace limits time_us = record {
  min = limits.min;
  max = limits.max;
  vmax = limits.vmax;
  amax = limits.amax;
  dt_us = time_us;
}

-- It can be led on: it stands between the ends, and no time is longer than a second.
pub record CanBeLed (limits : Limits) (at : ℤ) (dt_us : ℕ) : Type 0 where
  pub above : limits.min ≤ℤ at
  pub below : at ≤ℤ limits.max
  pub no_longer : dt_us ≤ LONGEST_PERIOD

-- A place is one new step further towards what is wanted, from one between the ends, after the last step. It lies
-- between the ends too, and the step is a number of the range.
pub record IsLedTo (limits : Limits) (at last : ℤ) (target : Value) (place : ℤ) : Type 0 where
  pub led : place ≡ at +ℤ new_step (reach_in limits) at last (wanted_step (reach_in limits) at target)
  pub fits : IsInRange (place -ℤ at)
  pub above : limits.min ≤ℤ place
  pub below : place ≤ℤ limits.max

-- it begins at a place brought between the ends, without a step
abbrev pub begun : Limits → ℤ → Bool → Led
begun limits state is_chained = record {
  chained = is_chained;
  set = Unset;
  at = between limits.min limits.max state;
  step = pos 0;
}

-- this value is set
abbrev pub with_set : ℤ → Led → Led
with_set value led = record { chained = led.chained; set = Num value; at = led.at; step = led.step }

-- What an update gives: one step further towards its reference where it is chained, else towards the value that was
-- set.
abbrev pub limiter_step : Limits → Led → ℕ → Value → Updated
limiter_step limits led dt_us reference =
    limiter_update (bounds_in limits) led.chained led.set led.at led.step dt_us
    (wanted led.chained (reference ∷ []) (led.set ∷ []))

-- what an update of one that runs leaves, and what it gives
pub record IsLedOn (before after : Limited) (dt_us : ℕ) (reference out : Value) (led : Led) : Type 0 where
  pub paced : after.limits ≡ at_pace before.limits dt_us
  pub part : option_map running_led after.run ≡ Some (limiter_step before.limits led dt_us reference).run
  pub output : out ∷ [] ≡ (limiter_step before.limits led dt_us reference).outs
