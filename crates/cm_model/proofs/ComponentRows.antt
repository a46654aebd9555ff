-- Worked rows on one component, computed from the definitions alone.
use Rattle.std.proofs.Common.{◌≡◌, ℕ, ℤ, pos, true, false, List, [], ◌∷◌, Some, None, refl}
use Rattle.std.specs.Prelude.{codes, map}
use Rattle.fixed_num.specs.Micro.{clamped}
use Rattle.fixed_num.specs.Arithmetic.{floor_div, within}
use Rattle.fixed_num.specs.Bodies.{stepped}
use Rattle.fixed_num.specs.declared.value.BodyState.{BodyState}
use Rattle.fixed_num.specs.declared.value.JointMode.TheVariants as mode
use Rattle.fixed_num.specs.declared.value.Value.{Value}
use Rattle.fixed_num.specs.declared.value.Value.TheVariants.{Unset, Num}
use Rattle.iface_names.specs.declared.kind.Kind.TheVariants.{Position, Velocity, Effort}
use Rattle.cm_document.specs.Described.{a_joint, a_component}
use Rattle.cm_document.specs.declared.description.CompDesc.{CompDesc}
use Rattle.cm_document.specs.declared.description.CompKind.TheVariants.{System}
use Rattle.cm_document.specs.declared.life.Life.TheVariants.{Unconfigured, Inactive, Active, Finalized}
use Rattle.cm_model.specs.Components.{has_move, read_fails, write_fails, is_written, life_after, bodies_at_start}
use Rattle.cm_model.specs.Components.{commands_at_start, states_after_read, commands_after_move, command_interfaces}
use Rattle.cm_model.specs.Components.{mode_fault, claimed_by, mode_of, bodies_after_step}

-- A system of two joints. The first has two commands, of velocity and of effort, and tells all three states; it begins
-- at 0.5 with the velocity 0.25. The second has one command, of position, and tells its position alone. Reads fail in
-- the cycles 3 and 0, listed so and the first of them twice; writes fail in the cycles 1 and 3.
abbrev arm : CompDesc
arm = a_component (codes "arm") System Active Finalized (3 ∷ 0 ∷ 3 ∷ []) (1 ∷ 3 ∷ [])
    (a_joint (codes "j1") (pos 10000000) (pos 1000000) (pos 500000) (pos 500000) (pos 250000) (Velocity ∷ Effort ∷ [])
    (Effort ∷ Position ∷ Velocity ∷ [])
    ∷ a_joint (codes "j2") (pos 1000000) (pos 1000000) (pos 0) (pos 0) (pos 0) (Position ∷ []) (Position ∷ []) ∷ [])

abbrev at : ℤ → ℤ → ℤ → BodyState
at position velocity effort = record { x = position; v = velocity; f = effort }

abbrev at_rest : BodyState
at_rest = at (pos 0) (pos 0) (pos 0)

-- ---- Lifecycle states

-- from finalized there is one move
moves_from_finalized : map (has_move Finalized) (Unconfigured ∷ Inactive ∷ Active ∷ Finalized ∷ [])
    ≡ false ∷ false ∷ false ∷ true ∷ []
moves_from_finalized = refl

-- and from another state each
moves_from_active : map (has_move Active) (Unconfigured ∷ Inactive ∷ Active ∷ Finalized ∷ [])
    ≡ true ∷ true ∷ true ∷ true ∷ []
moves_from_active = refl

-- ---- Failures in the cycles 0 to 4

cycles : List ℕ
cycles = 0 ∷ 1 ∷ 2 ∷ 3 ∷ 4 ∷ []

-- a read of an inactive component fails as listed, and nobody writes it
inactive_reads : map (read_fails arm Inactive) cycles ≡ true ∷ false ∷ false ∷ true ∷ false ∷ []
unfolding cycles
inactive_reads = refl

inactive_writes : map (is_written arm Inactive) cycles ≡ false ∷ false ∷ false ∷ false ∷ false ∷ []
unfolding cycles
inactive_writes = refl

-- an active one is not written in a cycle in which its read failed, so in cycle 3 its write does not fail
active_writes : map (write_fails arm Active) cycles ≡ false ∷ true ∷ false ∷ false ∷ false ∷ []
unfolding cycles
active_writes = refl

written : map (is_written arm Active) cycles ≡ false ∷ false ∷ true ∷ false ∷ true ∷ []
unfolding cycles
written = refl

-- where its read or its write failed it goes to its state on error
lives_after : map (life_after arm Active) cycles ≡ Finalized ∷ Finalized ∷ Active ∷ Finalized ∷ Active ∷ []
unfolding cycles
lives_after = refl

-- one that is unconfigured is neither read nor written, and stays
unconfigured_stays : map (life_after arm Unconfigured) cycles
    ≡ Unconfigured ∷ Unconfigured ∷ Unconfigured ∷ Unconfigured ∷ Unconfigured ∷ []
unfolding cycles
unconfigured_stays = refl

-- ---- What interfaces hold

no_command_at_start : commands_at_start arm ≡ Unset ∷ Unset ∷ Unset ∷ []
no_command_at_start = refl

-- what they held before
abbrev held : List Value
held = Num (pos 7) ∷ Unset ∷ Num (pos 8) ∷ Num (pos 9) ∷ []

-- a read that fails leaves them
failed_read_leaves : states_after_read arm Active 3 (bodies_at_start arm) held ≡ held
failed_read_leaves = refl

-- one that succeeds sets them, in the order of their lists
read_sets : states_after_read arm Active 1 (bodies_at_start arm) held
    ≡ Num (pos 0) ∷ Num (pos 500000) ∷ Num (pos 250000) ∷ Num (pos 0) ∷ []
read_sets = refl

-- a component that becomes unconfigured or finalized holds nothing
commands_emptied : commands_after_move Unconfigured (Num (pos 7) ∷ []) ≡ Unset ∷ []
commands_emptied = refl

-- and otherwise what it held
commands_kept : commands_after_move Inactive (Num (pos 7) ∷ []) ≡ Num (pos 7) ∷ []
commands_kept = refl

-- ---- Claims

-- two commands of one joint
two_on_one_joint : mode_fault arm (2 ∷ 1 ∷ 0 ∷ []) ≡ Some 0
two_on_one_joint = refl

-- the same one twice, and one of the other joint
one_twice : mode_fault arm (1 ∷ 2 ∷ 1 ∷ []) ≡ None
one_twice = refl

claimed : claimed_by arm (1 ∷ 2 ∷ []) ≡ Some 1 ∷ Some 2 ∷ []
claimed = refl

unclaimed : claimed_by arm (2 ∷ []) ≡ None ∷ Some 2 ∷ []
unclaimed = refl

modes : map (mode_of (command_interfaces arm)) (claimed_by arm (1 ∷ [])) ≡ mode.Effort ∷ mode.Idle ∷ []
modes = refl

-- ---- Steps of ten milliseconds

-- an effort of 2 and a position of 0.5, from rest
driven : bodies_after_step arm true (claimed_by arm (1 ∷ 2 ∷ []))
    (Num (pos 9) ∷ Num (pos 2000000) ∷ Num (pos 500000) ∷ []) 10000 (at_rest ∷ at_rest ∷ [])
    ≡ at (pos 200) (pos 20000) (pos 2000000) ∷ at (pos 10000) (pos 1000000) (pos 0) ∷ []
unfolding stepped floor_div within clamped
driven = refl

-- and the effort again, while nobody claims the other joint
driven_again : bodies_after_step arm true (claimed_by arm (1 ∷ []))
    (Num (pos 9) ∷ Num (pos 2000000) ∷ Num (pos 500000) ∷ []) 10000
    (at (pos 200) (pos 20000) (pos 2000000) ∷ at (pos 10000) (pos 1000000) (pos 0) ∷ [])
    ≡ at (pos 599) (pos 39900) (pos 2000000) ∷ at (pos 10000) (pos 0) (pos 0) ∷ []
unfolding stepped floor_div within clamped
driven_again = refl

-- a component that was not written
not_written : bodies_after_step arm false (claimed_by arm (1 ∷ 2 ∷ []))
    (Num (pos 9) ∷ Num (pos 2000000) ∷ Num (pos 500000) ∷ []) 10000
    (at (pos 200) (pos 20000) (pos 2000000) ∷ at (pos 10000) (pos 1000000) (pos 0) ∷ [])
    ≡ at (pos 200) (pos 0) (pos 0) ∷ at (pos 10000) (pos 0) (pos 0) ∷ []
not_written = refl
