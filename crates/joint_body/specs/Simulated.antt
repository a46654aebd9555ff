-- A body as contracts see it.
use Rattle.std.specs.Prelude.{ℕ, ℤ}
use Rattle.fixed_num.specs.Micro.{IsInRange}
use Rattle.fixed_num.specs.Arithmetic.{change_at}
use Rattle.fixed_num.specs.Bodies.{Plant, IsPlant, stepped}
use Rattle.fixed_num.specs.declared.value.BodyState.{BodyState}
use Rattle.fixed_num.specs.declared.value.JointMode.{JointMode}
use Rattle.fixed_num.specs.declared.value.JointMode.TheVariants.{Position}
use Rattle.fixed_num.specs.declared.value.Value.{Value}
use Rattle.fixed_num.specs.declared.value.Value.TheVariants.{Unset, Num}

-- what stays of a body, and its state
pub record Simulated : Type 0 where
  pub plant : Plant
  pub state : BodyState

-- its state after a step
abbrev pub after : Simulated → JointMode → Value → ℕ → BodyState
after body mode command dt_us = stepped body.plant mode command dt_us body.state

-- its state after a step in which its position is commanded
abbrev pub approaching : Simulated → ℤ → ℕ → BodyState
approaching body command dt_us = after body Position (Num command) dt_us

-- how far its highest velocity takes it
abbrev pub reach : Simulated → ℕ → ℤ
reach body dt_us = change_at body.plant.vmax dt_us

-- the three numbers of a state are in the range
pub record IsState (state : BodyState) : Type 0 where
  pub position : IsInRange state.x
  pub velocity : IsInRange state.v
  pub effort : IsInRange state.f

-- an interface holds nothing, or a number in the range
abbrev pub IsHeld : Value → Type 0
IsHeld Unset = Unit {0}
IsHeld (Num number) = IsInRange number

-- a step keeps a body in the range of numbers: one whose highest velocity is in it, and a command too
abbrev pub KeepsState : Simulated → JointMode → Value → ℕ → Type 0
KeepsState body mode command dt_us =
    IsPlant body.plant → IsInRange body.plant.vmax → IsState body.state → IsHeld command
    → IsState (after body mode command dt_us)
