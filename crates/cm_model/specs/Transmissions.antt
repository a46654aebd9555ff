-- Transmissions: what an actuator is told for what its joint is to do, and what the joint does for what the actuator
-- does. All is exact in whole micro-units, division rounds down, and a number is brought into the range only where a
-- formula says so.
use Rattle.std.specs.Prelude.{ℤ, pos, ◌+ℤ◌, ◌-ℤ◌, ◌*ℤ◌, ◌<ℤ◌, IsTrue}
use Rattle.fixed_num.specs.Micro.{clamped}
use Rattle.fixed_num.specs.Arithmetic.{floor_div, added, subtracted, multiplied}
use Rattle.fixed_num.specs.declared.TheConstants.{MICRO}
use Rattle.iface_names.specs.declared.kind.Kind.{Kind}
use Rattle.iface_names.specs.declared.kind.Kind.TheVariants.{Position, Velocity, Effort}
use Rattle.cm_document.specs.Params.{is_motion}

-- a simple transmission: the kind of the values, the reduction, and the joint's position where the actuator's is
-- nothing
pub record Gear : Type 0 where
  pub kind : Kind
  pub reduction : ℤ
  pub offset : ℤ

-- a differential: the kind of the values, the reductions of the two actuators, and the offsets of the two joints
pub record Pair : Type 0 where
  pub kind : Kind
  pub reductions : ℤ × ℤ
  pub offsets : ℤ × ℤ

-- a position or a velocity, and no effort
abbrev pub IsMotion : Kind → Type 0
IsMotion kind = IsTrue (is_motion kind)

-- a differential has reductions above 0 and carries motions
pub record IsPair (pair : Pair) : Type 0 where
  pub first : pos 0 <ℤ pair.reductions.0
  pub second : pos 0 <ℤ pair.reductions.1
  pub motion : IsMotion pair.kind

-- an actuator's value divided by a reduction, rounded down
abbrev pub quotient : ℤ → ℤ → ℤ
quotient reduction u = floor_div (u *ℤ pos MICRO) reduction

-- the same in the range
abbrev pub divided : ℤ → ℤ → ℤ
divided reduction u = clamped (quotient reduction u)

-- a joint's value less its offset, which a position alone has
abbrev pub less_offset : Kind → ℤ → ℤ → ℤ
less_offset Position offset r = subtracted r offset
less_offset Velocity offset r = r
less_offset Effort offset r = r

-- a joint's value from a whole number: with its offset, which a position alone has, in the range
abbrev pub with_offset : Kind → ℤ → ℤ → ℤ
with_offset Position offset n = clamped (n +ℤ offset)
with_offset Velocity offset n = clamped n
with_offset Effort offset n = clamped n

-- What the actuator of a simple transmission is told: so many times the motion of the joint as the reduction says, and
-- that part of its effort.
abbrev pub told : Kind → ℤ → ℤ → ℤ → ℤ
told Position reduction offset r = multiplied reduction (less_offset Position offset r)
told Velocity reduction offset r = multiplied reduction r
told Effort reduction offset r = divided reduction r

-- what its joint has: the same turned round
abbrev pub had : Kind → ℤ → ℤ → ℤ → ℤ
had Position reduction offset u = with_offset Position offset (quotient reduction u)
had Velocity reduction offset u = divided reduction u
had Effort reduction offset u = multiplied reduction u

abbrev pub to_actuator : Gear → ℤ → ℤ
to_actuator gear r = told gear.kind gear.reduction gear.offset r

abbrev pub to_joint : Gear → ℤ → ℤ
to_joint gear u = had gear.kind gear.reduction gear.offset u

-- the values of two joints less their offsets
abbrev pub less_offsets : Pair → ℤ × ℤ → ℤ × ℤ
less_offsets pair j = (less_offset pair.kind pair.offsets.0 j.0, less_offset pair.kind pair.offsets.1 j.1)

-- what the actuators of a differential are told: the one by the sum of the joints' values, the other by their
-- difference
abbrev pub to_actuators : Pair → ℤ × ℤ → ℤ × ℤ
to_actuators pair j =
    let own = less_offsets pair j in
    (multiplied pair.reductions.0 (added own.0 own.1), multiplied pair.reductions.1 (subtracted own.0 own.1))

-- the actuators' values divided by their reductions
abbrev pub both_divided : Pair → ℤ × ℤ → ℤ × ℤ
both_divided pair u = (divided pair.reductions.0 u.0, divided pair.reductions.1 u.1)

-- what its joints have: the one by half the sum, the other by half the difference
abbrev pub to_joints : Pair → ℤ × ℤ → ℤ × ℤ
to_joints pair u =
    let b = both_divided pair u in (
      with_offset pair.kind pair.offsets.0 (floor_div (b.0 +ℤ b.1) (pos 2)),
      with_offset pair.kind pair.offsets.1 (floor_div (b.0 -ℤ b.1) (pos 2)),
    )
