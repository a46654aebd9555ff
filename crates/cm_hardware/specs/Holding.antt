-- That hardware at work is that of a state of the manager: its components, and the board on which their interfaces
-- stand.
use Rattle.std.specs.Prelude.{◌≡◌, ℕ, ◌+◌, true, false, if◌then◌else◌, List, [], ◌∷◌, ◌++◌, map, filter, slice_set}
use Rattle.std.specs.Prelude.{Option, None, Result, MatchResult}
use Rattle.std.specs.List.{AllByRecursion}
use Rattle.fixed_num.specs.declared.value.BodyState.{BodyState}
use Rattle.cm_document.specs.Places.{Interface, interfaces_of}
use Rattle.cm_document.specs.declared.life.Life.{Life}
use Rattle.cm_model.specs.Boundary.{life_at}
use Rattle.cm_model.specs.Components.{has_move, claimed_by, read_succeeds, read_fails, write_fails}
use Rattle.cm_model.specs.Cycle.{commands_at, claims_in, component_is, components_where, failed_in, updates, cycle}
use Rattle.cm_model.specs.Cycle.{moved, landed, after_cycle}
use Rattle.cm_model.specs.Order.{Places}
use Rattle.cm_model.specs.Sound.{IsEmptyUnless}
use Rattle.cm_model.specs.State.{State, Loaded, is_active, owner, active, available, available_in}
pub use Rattle.cm_model.specs.State.{IsStill}
use Rattle.cm_model.specs.Values.{InterfaceValue, after_reads}
use Rattle.cm_storage.specs.declared.record.FailedPart.{FailedPart}
use Rattle.hw_component.specs.declared.faults.HwFault.{HwFault}
use Rattle.hw_component.specs.declared.faults.HwFault.TheVariants.{NoSuchMove}
use Rattle.cm_hardware.specs.Wiring.{Mounted, Wired, loan_of, component_of, fails_read, IsWired}

-- of each of these components, the first of which has this place, those command interfaces are claimed that the state
-- tells
abbrev pub AreClaimed : State → ℕ → List Mounted → Type 0
AreClaimed s component [] = Unit {0}
AreClaimed s component (m ∷ ms) =
    (m.hardware.claimed ≡ claimed_by m.hardware.description (claims_in s (commands_at component s.values)))
    × AreClaimed s (component + 1) ms

-- between two cycles no failure is to be told of a component, and no write to be applied
pub record IsAtRest (m : Mounted) : Type 0 where
  pub failed : m.failed ≡ false
  pub written : m.hardware.written ≡ false

-- an interface that is not available holds nothing
abbrev pub IsEmptyUnlessAvailable : State → InterfaceValue → Type 0
IsEmptyUnlessAvailable s = IsEmptyUnless (available_in s.lives (active s))

-- This is the hardware of the state, between two cycles.
pub record IsHardwareOf (s : State) (w : Wired) : Type 0 where
  pub wired : IsWired s w.components
  pub loans : w.loans ≡ map (loan_of (owner s) (available s)) s.values
  pub places : w.places ≡ map (λ i. component_of i.whose) (interfaces_of s.description)
  pub claims : AreClaimed s 0 w.components
  pub rest : AllByRecursion IsAtRest w.components
  pub empty : AllByRecursion (IsEmptyUnlessAvailable s) s.values

-- ---- Who runs

-- an active controller as the hardware goes by it: its place in the description, and its serial
pub record Runner : Type 0 where
  pub place : ℕ
  pub serial : ℕ

abbrev pub runner_of : Loaded → Runner
runner_of l = record { place = l.place; serial = l.serial }

-- those of a state, by serial
abbrev pub runners : State → List Runner
runners s = map runner_of (filter is_active s.loaded)

-- ---- In a cycle

-- in a cycle of this number it is told of a component whether its read failed, and no write is to be applied yet
pub record IsRead (number : ℕ) (m : Mounted) : Type 0 where
  pub failed : m.failed ≡ fails_read number m
  pub written : m.hardware.written ≡ false

-- This is the hardware of the state in the cycle that is aloft, after its reads and before its writes, while the
-- interfaces hold these values.
pub record IsInCycle (s : State) (values : List InterfaceValue) (w : Wired) : Type 0 where
  pub wired : IsWired (record s { values = values }) w.components
  pub loans : w.loans ≡ map (loan_of (owner s) (available s)) values
  pub places : w.places ≡ map (λ i. component_of i.whose) (interfaces_of s.description)
  pub claims : AreClaimed (record s { values = values }) 0 w.components
  pub reads : AllByRecursion (IsRead s.ended) w.components
  pub empty : AllByRecursion (IsEmptyUnlessAvailable s) values

-- what the interfaces hold after the reads of a cycle, and after the updates of its controllers
abbrev pub values_read : State → List InterfaceValue
values_read s = after_reads (component_is read_succeeds s) s.bodies s.values

abbrev pub values_updated : State → List InterfaceValue
values_updated s = (updates s (values_read s)).values

-- what is told of the reads that fail in the cycle, and of the writes; of all failures these come before those
abbrev pub reads_failed_in : State → List FailedPart
reads_failed_in s = map (λ place. record {
  place = place;
  reading = true;
}) (components_where (component_is read_fails s) s)

abbrev pub writes_failed_in : State → List FailedPart
writes_failed_in s = map (λ place. record {
  place = place;
  reading = false;
}) (components_where (component_is write_fails s) s)

-- The hardware after the reads of a cycle of the state, and what was told of them.
pub record ReadInCycle (s : State) (after : Wired) (parts parts' : List FailedPart) : Type 0 where
  pub hardware : IsInCycle s (values_read s) after
  pub failed : parts' ≡ parts ++ reads_failed_in s

-- ---- While owners change

-- who has an interface on the board: its owner, while it is available
abbrev pub holder : State → Interface → Option ℕ
holder s i = if available s i then owner s i else None

-- This is the hardware of the state, between two cycles, but that these have the interfaces, and the references of
-- these controllers are available; and each joint may still go by claims of before.
pub record IsLentBy (s : State) (has : Interface → Option ℕ) (exporters : Places) (w : Wired) : Type 0 where
  pub wired : IsWired s w.components
  pub loans : w.loans ≡ map (loan_of has (λ i. available_in s.lives exporters i.whose)) s.values
  pub places : w.places ≡ map (λ i. component_of i.whose) (interfaces_of s.description)
  pub rest : AllByRecursion IsAtRest w.components
  pub empty : AllByRecursion (IsEmptyUnless (available_in s.lives exporters)) s.values

-- So it is, where the owner of each interface has it while it is available, and nobody else.
abbrev pub IsLent : State → Wired → Type 0
IsLent s w = IsLentBy s (holder s) (active s) w

-- So it is, and the joints go by the claims: where no interface has an owner that is not available, it is the hardware
-- of the state.
pub record IsMoved (s : State) (w : Wired) : Type 0 where
  pub lent : IsLent s w
  pub claims : AreClaimed s 0 w.components

-- Where a component can move, the hardware after it is that of the state when it moved, but that nobody has what is not
-- available; else the move is refused, and nothing changes.
abbrev pub MovesComponent : State → ℕ → Life → Wired → Wired → Result (Unit {0}) HwFault → Type 0
MovesComponent s component target before after result =
    MatchResult result
    (λ _. (has_move (life_at s component) target ≡ true)
    × IsMoved (moved s (slice_set s.lives component target)) after)
    (λ fault. ((has_move (life_at s component) target ≡ false) × (fault ≡ NoSuchMove)) × (after ≡ before))

-- The hardware after the writes and steps of a cycle of the state, when the components that failed have moved, and what
-- was told of them. Which controllers stop is to be decided yet.
pub record FinishedCycle (s : State) (after : Wired) (parts parts' : List FailedPart) (states states' : List BodyState)
    : Type 0 where
  pub hardware : IsMoved (landed s (cycle s)) after
  pub failed : parts' ≡ parts ++ writes_failed_in s
  pub bodies : states' ≡ states ++ (cycle s).happened.bodies

-- ---- A cycle without controllers

-- The hardware after the cycle of a state, and what was told of the cycle: the components that failed, and the bodies.
pub record RanCycle (s : State) (after : Wired) (parts parts' : List FailedPart) (states states' : List BodyState) :
    Type 0 where
  pub hardware : IsHardwareOf (after_cycle s (cycle s)) after
  pub failed : parts' ≡ parts ++ failed_in s
  pub bodies : states' ≡ states ++ (cycle s).bodies
