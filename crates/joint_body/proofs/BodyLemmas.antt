-- Steps of bodies: what holds of positions, velocities and efforts.
use Rattle.std.proofs.Common.{◌≡◌, ℕ, ◌<◌, ℤ, pos, negsuc, ◌≤ℤ◌, ◌+ℤ◌, ◌-ℤ◌, arith}
use Rattle.std.proofs.lemmas.Int.{ints, clamps}
use Rattle.fixed_num.specs.Micro.{IsInRange, clamped}
use Rattle.fixed_num.specs.Arithmetic.{IsWithin, within, change_at, rate_of}
use Rattle.fixed_num.specs.Bodies.{Plant, IsPlant, approached, moving, stepped}
use Rattle.joint_body.specs.Simulated.{IsState, IsHeld}
use Rattle.fixed_num.specs.declared.value.BodyState.{BodyState}
use Rattle.fixed_num.specs.declared.value.JointMode.{JointMode}
use Rattle.fixed_num.specs.declared.value.JointMode.TheVariants.{Idle, Position, Velocity, Effort}
use Rattle.fixed_num.specs.declared.value.Value.{Value}
use Rattle.fixed_num.specs.declared.value.Value.TheVariants.{Unset, Num}
use Rattle.fixed_num.proofs.ArithmeticLemmas.{limit_holds, change_not_negative, rate_within}

-- ---- Limits

-- and stays so where it is brought into the range
range_keeps_limit : (limit z : ℤ) → pos 0 ≤ℤ limit → IsWithin limit z → IsWithin limit (clamped z)
unfolding clamped
range_keeps_limit limit z some near =
    (omega (arith, ints, clamps, near.0, near.1), omega (arith, ints, clamps, near.0, near.1))

-- what is brought into the range is in it
range_holds : (z : ℤ) → IsInRange (clamped z)
unfolding clamped
range_holds z = (omega (arith, ints, clamps), omega (arith, ints, clamps))

-- what is within a limit in the range is in it
limit_in_range : (limit z : ℤ) → IsInRange limit → IsWithin limit z → IsInRange z
limit_in_range limit z fits near =
    (omega (arith, ints, fits.0, fits.1, near.0, near.1), omega (arith, ints, fits.0, fits.1, near.0, near.1))

-- ---- Positions

-- a change that is brought within a reach changes a number of the range by no more
near_by : (reach x change : ℤ) → pos 0 ≤ℤ reach → IsInRange x → IsWithin reach (clamped (x +ℤ within reach change) -ℤ x)
unfolding clamped
near_by reach x change some fits =
    let near = limit_holds reach change some in (
      omega (arith, ints, clamps, fits.0, fits.1, near.0, near.1),
      omega (arith, ints, clamps, fits.0, fits.1, near.0, near.1),
    )

-- a number of the range that is within reach is reached
arrived : (reach x command : ℤ) → IsInRange command → IsWithin reach (command -ℤ x)
    → clamped (x +ℤ within reach (command -ℤ x)) ≡ command
unfolding clamped within
arrived reach x command fits near = omega (arith, ints, clamps, fits.0, fits.1, near.0, near.1)

-- a body whose position is commanded goes no farther than its reach
pub approach_is_near : (plant : Plant) (command x : ℤ) (dt_us : ℕ) → IsPlant plant → IsInRange x
    → IsWithin (change_at plant.vmax dt_us) (approached plant command dt_us x -ℤ x)
approach_is_near plant command x dt_us sound fits =
    near_by (change_at plant.vmax dt_us) x (command -ℤ x) (change_not_negative plant.vmax dt_us sound.vmax) fits

-- and is at a command that is within its reach
pub approach_arrives : (plant : Plant) (command x : ℤ) (dt_us : ℕ) → IsInRange command
    → IsWithin (change_at plant.vmax dt_us) (command -ℤ x) → approached plant command dt_us x ≡ command
approach_arrives plant command x dt_us fits near = arrived (change_at plant.vmax dt_us) x command fits near

-- ---- Velocities

-- the rate of what a limit allows is within the limit
rate_keeps_limit : (limit change : ℤ) (dt_us : ℕ) → pos 0 ≤ℤ limit → 0 < dt_us → IsWithin (change_at limit dt_us) change
    → IsWithin limit (rate_of change dt_us)
rate_keeps_limit (pos m) change dt_us some time near = rate_within change m dt_us time near
rate_keeps_limit (negsuc m) change dt_us some time near = absurd (omega (arith, ints, some))

-- after a step no velocity passes the limit
pub velocity_is_limited : (plant : Plant) (mode : JointMode) (command : Value) (dt_us : ℕ) (body : BodyState)
    → IsPlant plant → 0 < dt_us → IsInRange body.x → IsWithin plant.vmax (stepped plant mode command dt_us body).v
unfolding stepped
velocity_is_limited plant Position (Num command) dt_us body sound time fits =
    let near = approach_is_near plant command body.x dt_us sound fits in
    range_keeps_limit plant.vmax _ sound.vmax (rate_keeps_limit plant.vmax _ dt_us sound.vmax time near)
velocity_is_limited plant Velocity (Num command) dt_us body sound time fits = limit_holds plant.vmax _ sound.vmax
velocity_is_limited plant Effort (Num command) dt_us body sound time fits = limit_holds plant.vmax _ sound.vmax
velocity_is_limited plant Idle command dt_us body sound time fits =
    (omega (arith, ints, sound.vmax), omega (arith, ints, sound.vmax))
velocity_is_limited plant mode Unset dt_us body sound time fits =
    (omega (arith, ints, sound.vmax), omega (arith, ints, sound.vmax))

-- ---- States

-- nothing is in the range
nothing_in_range : IsInRange (pos 0)
nothing_in_range = (omega (arith, ints), omega (arith, ints))

-- a body that moves with a velocity and an effort in the range
moving_is_state : (velocity effort : ℤ) (dt_us : ℕ) (body : BodyState) → IsInRange velocity → IsInRange effort
    → IsState (moving velocity effort dt_us body)
moving_is_state velocity effort dt_us body v f = record { position = range_holds _; velocity = v; effort = f }

-- a step keeps the three numbers in the range
pub step_keeps_state : (plant : Plant) (mode : JointMode) (command : Value) (dt_us : ℕ) (body : BodyState)
    → IsPlant plant → IsInRange plant.vmax → IsState body → IsHeld command
    → IsState (stepped plant mode command dt_us body)
unfolding stepped
step_keeps_state plant Position (Num command) dt_us body sound most state held =
    record { position = range_holds _; velocity = range_holds _; effort = nothing_in_range }
step_keeps_state plant Velocity (Num command) dt_us body sound most state held =
    moving_is_state _ _ dt_us body (limit_in_range plant.vmax _ most (limit_holds plant.vmax _ sound.vmax))
    nothing_in_range
step_keeps_state plant Effort (Num command) dt_us body sound most state held =
    moving_is_state _ _ dt_us body (limit_in_range plant.vmax _ most (limit_holds plant.vmax _ sound.vmax)) held
step_keeps_state plant Idle command dt_us body sound most state held =
    record { position = state.position; velocity = nothing_in_range; effort = nothing_in_range }
step_keeps_state plant mode Unset dt_us body sound most state held =
    record { position = state.position; velocity = nothing_in_range; effort = nothing_in_range }
