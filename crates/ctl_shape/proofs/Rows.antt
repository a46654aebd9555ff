-- Worked rows, computed from the definitions alone.
use Rattle.std.proofs.Common.{◌≡◌, pos, negsuc, refl}
use Rattle.fixed_num.specs.Micro.{clamped}
use Rattle.fixed_num.specs.Arithmetic.{floor_div}
use Rattle.iface_names.specs.declared.kind.Kind.TheVariants.{Position, Velocity, Effort}
use Rattle.cm_model.specs.Transmissions.{Gear, Pair, to_actuator, to_joint, to_actuators, to_joints}
use Rattle.ctl_shape.specs.RoundTrips.{grain, lost, both_lost}

-- three turns of the actuator for one of the joint, which stands at 0.1 where the actuator stands at nothing
abbrev geared : Gear
geared = record { kind = Position; reduction = pos 3000000; offset = pos 100000 }

a_position_there : to_actuator geared (pos 500000) ≡ pos 1200000
unfolding clamped floor_div
a_position_there = refl

and_back : to_joint geared (pos 1200000) ≡ pos 500000
unfolding clamped floor_div
and_back = refl

-- a third of a turn
abbrev third : Gear
third = record { kind = Position; reduction = pos 333333; offset = pos 0 }

a_third_there : to_actuator third (pos 500000) ≡ pos 166666
unfolding clamped floor_div
a_third_there = refl

a_third_back : to_joint third (pos 166666) ≡ pos 499998
unfolding clamped floor_div
a_third_back = refl

-- the reduction divides an effort on the way there, and multiplies it on the way back
abbrev strong : Gear
strong = record { kind = Effort; reduction = pos 3000000; offset = pos 100000 }

an_effort_there : to_actuator strong (pos 500000) ≡ pos 166666
unfolding clamped floor_div
an_effort_there = refl

an_effort_back : to_joint strong (pos 166666) ≡ pos 499998
unfolding clamped floor_div
an_effort_back = refl

-- a velocity has no offset
abbrev fast : Gear
fast = record { kind = Velocity; reduction = pos 3000000; offset = pos 100000 }

a_velocity_there : to_actuator fast (negsuc 0) ≡ negsuc 2
unfolding clamped floor_div
a_velocity_there = refl

a_velocity_back : to_joint fast (negsuc 0) ≡ negsuc 0
unfolding clamped floor_div
a_velocity_back = refl

abbrev wrist : Pair
wrist = record { kind = Position; reductions = (pos 2000000, pos 2000000); offsets = (pos 0, pos 0) }

two_there : to_actuators wrist (pos 300000, pos 100000) ≡ (pos 800000, pos 400000)
unfolding clamped floor_div
two_there = refl

two_back : to_joints wrist (pos 800000, pos 400000) ≡ (pos 300000, pos 100000)
unfolding clamped floor_div
two_back = refl

-- ---- The ends of what a round trip takes

-- a micro-unit of the actuator is 1.43 of the joint, so 2
abbrev coarse : Gear
coarse = record { kind = Position; reduction = pos 700000; offset = pos 0 }

a_grain : grain (pos 700000) ≡ pos 2
unfolding floor_div
a_grain = refl

nothing_lost : lost coarse (pos 10) ≡ pos 0
unfolding clamped floor_div
nothing_lost = refl

a_grain_lost : lost coarse (pos 4) ≡ pos 2
unfolding clamped floor_div
a_grain_lost = refl

-- of the first joint from 0 to 2, of the second from -1 to 1
abbrev coarse_wrist : Pair
coarse_wrist = record { kind = Position; reductions = (pos 700000, pos 700000); offsets = (pos 0, pos 0) }

none_lost : both_lost coarse_wrist (pos 0, pos 0) ≡ (pos 0, pos 0)
unfolding clamped floor_div
none_lost = refl

two_of_the_first : both_lost coarse_wrist (pos 0, pos 4) ≡ (pos 2, pos 1)
unfolding clamped floor_div
two_of_the_first = refl

one_more_of_the_second : both_lost coarse_wrist (pos 2, pos 8) ≡ (pos 1, negsuc 0)
unfolding clamped floor_div
one_more_of_the_second = refl
