-- What a round trip through a transmission takes from a joint's value: from the joint to the actuator and back.
use Rattle.std.specs.Prelude.{ℤ, pos, neg_ℤ, ◌+ℤ◌, ◌-ℤ◌, ◌*ℤ◌, ◌≤ℤ◌}
use Rattle.fixed_num.specs.Micro.{IsInRange}
use Rattle.fixed_num.specs.Arithmetic.{floor_div}
use Rattle.fixed_num.specs.declared.TheConstants.{MICRO}
use Rattle.iface_names.specs.declared.kind.Kind.{Kind}
use Rattle.iface_names.specs.declared.kind.Kind.TheVariants.{Position, Velocity, Effort}
use Rattle.cm_model.specs.Transmissions.{Gear, Pair, quotient, to_actuator, to_joint, to_actuators, to_joints}

-- a quotient rounded up
abbrev pub ceil_div : ℤ → ℤ → ℤ
ceil_div z d = neg_ℤ (floor_div (neg_ℤ z) d)

-- how many micro-units of a joint one micro-unit of its actuator is, rounded up
abbrev pub grain : ℤ → ℤ
grain reduction = ceil_div (pos MICRO) reduction

-- the offset that a position has, and 0 for other kinds
abbrev pub offset_of : Kind → ℤ → ℤ
offset_of Position offset = offset
offset_of Velocity offset = pos 0
offset_of Effort offset = pos 0

-- a product with a reduction, rounded down
abbrev pub product : ℤ → ℤ → ℤ
product reduction r = floor_div (reduction *ℤ r) (pos MICRO)

-- a joint's value without its offset, exactly
abbrev pub own : Kind → ℤ → ℤ → ℤ
own kind offset r = r -ℤ offset_of kind offset

-- No formula of a simple transmission is brought into the range on the way there and back.
pub record NothingClamps (gear : Gear) (r : ℤ) : Type 0 where
  pub less_offset : IsInRange (own gear.kind gear.offset r)
  pub at_actuator : IsInRange (product gear.reduction (own gear.kind gear.offset r))
  pub back_at_joint : IsInRange (quotient gear.reduction (to_actuator gear r) +ℤ offset_of gear.kind gear.offset)

-- what a round trip takes from a joint's value
abbrev pub lost : Gear → ℤ → ℤ
lost gear r = r -ℤ to_joint gear (to_actuator gear r)

-- a number lies from one number to another
abbrev pub IsFromTo : ℤ → ℤ → ℤ → Type 0
IsFromTo low high z = (low ≤ℤ z) × (z ≤ℤ high)

-- No formula of a differential is brought into the range on the way there and back: s and d are the joints' values
-- without their offsets, b1 and b2 the actuators' divided by the reductions.
pub record NothingClampsInPair (pair : Pair) (j : ℤ × ℤ) (s d b1 b2 : ℤ) : Type 0 where
  pub first : IsInRange s
  pub second : IsInRange d
  pub sum : IsInRange (s +ℤ d)
  pub difference : IsInRange (s -ℤ d)
  pub told_first : IsInRange (product pair.reductions.0 (s +ℤ d))
  pub told_second : IsInRange (product pair.reductions.1 (s -ℤ d))
  pub back_first : IsInRange b1
  pub back_second : IsInRange b2
  pub had_first : IsInRange (floor_div (b1 +ℤ b2) (pos 2) +ℤ offset_of pair.kind pair.offsets.0)
  pub had_second : IsInRange (floor_div (b1 -ℤ b2) (pos 2) +ℤ offset_of pair.kind pair.offsets.1)

abbrev pub NothingClampsInBoth : Pair → ℤ × ℤ → Type 0
NothingClampsInBoth pair j =
    let u = to_actuators pair j in
    NothingClampsInPair pair j (own pair.kind pair.offsets.0 j.0) (own pair.kind pair.offsets.1 j.1)
    (quotient pair.reductions.0 u.0) (quotient pair.reductions.1 u.1)

-- what a round trip takes from the values of both joints
abbrev pub both_lost : Pair → ℤ × ℤ → ℤ × ℤ
both_lost pair j =
    let back = to_joints pair (to_actuators pair j) in
    (j.0 -ℤ back.0, j.1 -ℤ back.1)

-- The first joint comes back less by at most the half of both grains, rounded up; the second at most the half of the
-- second grain, rounded down, more, or the half of the first, rounded up, less.
pub record LosesLittle (grains lost : ℤ × ℤ) : Type 0 where
  pub first : IsFromTo (pos 0) (ceil_div (grains.0 +ℤ grains.1) (pos 2)) lost.0
  pub second : IsFromTo (neg_ℤ (floor_div grains.1 (pos 2))) (ceil_div grains.0 (pos 2)) lost.1
