-- Worked rows on limiters, computed from the definitions alone.
use Rattle.std.proofs.Common.{◌≡◌, pos, negsuc, refl}
use Rattle.fixed_num.specs.Arithmetic.{floor_div}
use Rattle.cm_model.specs.Limiters.{Reach, way_after, wanted_step}
use Rattle.ctl_shape.specs.Limiters.{reach_in}
use Rattle.ctl_shape.specs.declared.limits.Limits.{Limits}
use Rattle.fixed_num.specs.declared.value.Value.TheVariants.{Unset, Num}

-- from -1 to 1, at most 1 a second and 10 a second squared, a hundred times a second
abbrev easy : Limits
easy = record { min = negsuc 999999; max = pos 1000000; vmax = pos 1000000; amax = pos 10000000; dt_us = 10000 }

a_reach : reach_in easy ≡ record { lowest = negsuc 999999; highest = pos 1000000; longest = 10000; change = 1000 }
unfolding floor_div
a_reach = refl

-- an acceleration below a hundredth comes to nothing a hundred times a second
abbrev weak : Limits
weak = record easy { amax = pos 9999 }

a_change_of_nothing : (reach_in weak).change ≡ 0
unfolding floor_div
a_change_of_nothing = refl

a_change_of_one : (reach_in (record easy { amax = pos 10000 })).change ≡ 1
unfolding floor_div
a_change_of_one = refl

-- the way after a step: 2 and 1; 7, 4 and 1; none
a_short_way : way_after 1 3 ≡ 3
a_short_way = refl

a_way : way_after 3 10 ≡ 12
a_way = refl

no_way : way_after 1000 1000 ≡ 0
no_way = refl

a_long_way : way_after 1000 6000 ≡ 15000
a_long_way = refl

-- what is wanted above the highest is the highest
abbrev reach : Reach
reach = record { lowest = negsuc 9; highest = pos 10; longest = 3; change = 1 }

above : wanted_step reach (pos 4) (Num (pos 20)) ≡ pos 6
above = refl

below : wanted_step reach (pos 4) (Num (negsuc 19)) ≡ negsuc 13
below = refl

unset : wanted_step reach (pos 4) Unset ≡ pos 0
unset = refl
