-- Bodies of joints: what one step makes of a body's position, velocity and effort. All is exact in whole micro-units,
-- division rounds down, and a number is brought into the range or within a limit only where a formula says so.
use Rattle.std.specs.Prelude.{ℕ, ℤ, pos, ◌+ℤ◌, ◌-ℤ◌, ◌≤ℤ◌}
use Rattle.fixed_num.specs.Micro.{clamped}
use Rattle.fixed_num.specs.Arithmetic.{multiplied, within, change_at, rate_of}
use Rattle.fixed_num.specs.declared.value.BodyState.{BodyState}
use Rattle.fixed_num.specs.declared.value.JointMode.{JointMode}
use Rattle.fixed_num.specs.declared.value.JointMode.TheVariants.{Idle, Position, Velocity, Effort}
use Rattle.fixed_num.specs.declared.value.Value.{Value}
use Rattle.fixed_num.specs.declared.value.Value.TheVariants.{Unset, Num}

-- What stays of a body: the velocity that it never passes, and how an effort and its own velocity change that velocity.
pub record Plant : Type 0 where
  pub vmax : ℤ
  pub gain : ℤ
  pub damping : ℤ

-- none of the three is negative
pub record IsPlant (plant : Plant) : Type 0 where
  pub vmax : pos 0 ≤ℤ plant.vmax
  pub gain : pos 0 ≤ℤ plant.gain
  pub damping : pos 0 ≤ℤ plant.damping

-- not commanded: it stands still where it is, and no effort is applied
abbrev pub stopped : BodyState → BodyState
stopped body = record { x = body.x; v = pos 0; f = pos 0 }

-- where a commanded position brings it: to the command, or towards it as far as the highest velocity takes it
abbrev pub approached : Plant → ℤ → ℕ → ℤ → ℤ
approached plant command dt_us x = clamped (x +ℤ within (change_at plant.vmax dt_us) (command -ℤ x))

-- its position commanded: it goes there, and its velocity is the rate at which it went
abbrev pub positioned : Plant → ℤ → ℕ → BodyState → BodyState
positioned plant command dt_us body =
    let x = approached plant command dt_us body.x in
    record { x = x; v = clamped (rate_of (x -ℤ body.x) dt_us); f = pos 0 }

-- a body that has this velocity and effort goes on with the velocity
abbrev pub moving : ℤ → ℤ → ℕ → BodyState → BodyState
moving velocity effort dt_us body = record {
  x = clamped (body.x +ℤ change_at velocity dt_us);
  v = velocity;
  f = effort;
}

-- its velocity commanded: it has the command for its velocity, within the limit
abbrev pub driven : Plant → ℤ → ℕ → BodyState → BodyState
driven plant command dt_us body = moving (within plant.vmax command) (pos 0) dt_us body

-- The velocity that a commanded effort gives it, within the limit: the effort, by the gain, less the velocity, by the
-- damping, is the acceleration.
abbrev pub accelerated : Plant → ℤ → ℕ → ℤ → ℤ
accelerated plant command dt_us v =
    within plant.vmax (v +ℤ change_at (multiplied command plant.gain -ℤ multiplied plant.damping v) dt_us)

-- its effort commanded: it goes on with that velocity, and keeps the effort
abbrev pub pushed : Plant → ℤ → ℕ → BodyState → BodyState
pushed plant command dt_us body = moving (accelerated plant command dt_us body.v) command dt_us body

-- One step of a body: by how its joint is driven, what the claimed interface holds, and the time in microseconds. A
-- joint is commanded where it is driven and a number is held.
unfoldable pub stepped : Plant → JointMode → Value → ℕ → BodyState → BodyState
stepped plant Position (Num command) dt_us body = positioned plant command dt_us body
stepped plant Velocity (Num command) dt_us body = driven plant command dt_us body
stepped plant Effort (Num command) dt_us body = pushed plant command dt_us body
stepped plant Idle command dt_us body = stopped body
stepped plant mode Unset dt_us body = stopped body
