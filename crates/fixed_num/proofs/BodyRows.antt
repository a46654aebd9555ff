-- Worked rows on bodies, computed from the definitions alone.
use Rattle.std.proofs.Common.{◌≡◌, ℕ, ℤ, pos, negsuc, refl}
use Rattle.fixed_num.specs.Micro.{clamped}
use Rattle.fixed_num.specs.Arithmetic.{floor_div, within}
use Rattle.fixed_num.specs.Bodies.{Plant, stepped}
use Rattle.fixed_num.specs.declared.value.BodyState.{BodyState}
use Rattle.fixed_num.specs.declared.value.JointMode.TheVariants.{Idle, Position, Velocity, Effort}
use Rattle.fixed_num.specs.declared.value.Value.TheVariants.{Unset, Num}

-- a body whose highest velocity is 10, with gain 1 and damping 0.5
abbrev light : Plant
light = record { vmax = pos 10000000; gain = pos 1000000; damping = pos 500000 }

-- a body whose highest velocity is 1
abbrev slow : Plant
slow = record { vmax = pos 1000000; gain = pos 1000000; damping = pos 0 }

-- ten milliseconds
abbrev short : ℕ
short = 10000

abbrev at : ℤ → ℤ → ℤ → BodyState
at x v f = record { x = x; v = v; f = f }

-- ---- Effort

an_effort_from_rest : stepped light Effort (Num (pos 2000000)) short (at (pos 0) (pos 0) (pos 0))
    ≡ at (pos 200) (pos 20000) (pos 2000000)
unfolding stepped floor_div within clamped
an_effort_from_rest = refl

the_effort_again : stepped light Effort (Num (pos 2000000)) short (at (pos 200) (pos 20000) (pos 2000000))
    ≡ at (pos 599) (pos 39900) (pos 2000000)
unfolding stepped floor_div within clamped
the_effort_again = refl

an_effort_up_to_the_limit : stepped slow Effort (Num (pos 200000000)) short (at (pos 0) (pos 0) (pos 0))
    ≡ at (pos 10000) (pos 1000000) (pos 200000000)
unfolding stepped floor_div within clamped
an_effort_up_to_the_limit = refl

an_effort_down_to_the_limit : stepped slow Effort (Num (negsuc 199999999)) short (at (pos 0) (pos 0) (pos 0))
    ≡ at (negsuc 9999) (negsuc 999999) (negsuc 199999999)
unfolding stepped floor_div within clamped
an_effort_down_to_the_limit = refl

-- ---- Position

a_position_out_of_reach : stepped slow Position (Num (pos 500000)) short (at (pos 0) (pos 0) (pos 0))
    ≡ at (pos 10000) (pos 1000000) (pos 0)
unfolding stepped floor_div within clamped
a_position_out_of_reach = refl

a_position_out_of_reach_below : stepped slow Position (Num (negsuc 499999)) short (at (pos 0) (pos 0) (pos 0))
    ≡ at (negsuc 9999) (negsuc 999999) (pos 0)
unfolding stepped floor_div within clamped
a_position_out_of_reach_below = refl

a_position_within_reach : stepped slow Position (Num (pos 15000)) short (at (pos 10000) (pos 1000000) (pos 0))
    ≡ at (pos 15000) (pos 500000) (pos 0)
unfolding stepped floor_div within clamped
a_position_within_reach = refl

-- a third of a million is rounded down, below zero too
a_rate_below_zero : stepped light Position (Num (negsuc 0)) 3 (at (pos 0) (pos 0) (pos 0))
    ≡ at (negsuc 0) (negsuc 333333) (pos 0)
unfolding stepped floor_div within clamped
a_rate_below_zero = refl

-- ---- Velocity

a_velocity_above_the_limit : stepped light Velocity (Num (pos 20000000)) short (at (pos 0) (pos 0) (pos 0))
    ≡ at (pos 100000) (pos 10000000) (pos 0)
unfolding stepped floor_div within clamped
a_velocity_above_the_limit = refl

a_velocity_below_the_limit : stepped light Velocity (Num (negsuc 19999999)) short (at (pos 0) (pos 0) (pos 0))
    ≡ at (negsuc 99999) (negsuc 9999999) (pos 0)
unfolding stepped floor_div within clamped
a_velocity_below_the_limit = refl

a_small_velocity_below_zero : stepped light Velocity (Num (negsuc 0)) short (at (pos 0) (pos 0) (pos 0))
    ≡ at (negsuc 0) (negsuc 0) (pos 0)
unfolding stepped floor_div within clamped
a_small_velocity_below_zero = refl

the_end_of_the_range : stepped light Velocity (Num (pos 1000000)) short (at (pos 1000000000000000) (pos 0) (pos 0))
    ≡ at (pos 1000000000000000) (pos 1000000) (pos 0)
unfolding stepped floor_div within clamped
the_end_of_the_range = refl

-- ---- Nobody commands

nothing_is_set : stepped light Velocity Unset short (at (pos 7) (pos 1000000) (pos 3)) ≡ at (pos 7) (pos 0) (pos 0)
unfolding stepped
nothing_is_set = refl

nothing_is_claimed : stepped light Idle (Num (pos 1)) short (at (pos 7) (pos 1000000) (pos 3))
    ≡ at (pos 7) (pos 0) (pos 0)
unfolding stepped
nothing_is_claimed = refl
