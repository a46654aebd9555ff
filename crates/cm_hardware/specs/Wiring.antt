-- Components over a board: what the calls of a cycle make of them, one component after the other.
use Rattle.std.specs.Prelude.{◌≡◌, ℕ, zero, suc, ◌+◌, ◌<◌, ◌≤◌, ◌^◌, ◌==◌, not, ◌&&◌, ◌||◌, Bool, true, false}
use Rattle.std.specs.Prelude.{if◌then◌else◌, List, [], ◌∷◌, ◌++◌, length, map, flat_map, take, slice_get, Option, None}
use Rattle.std.specs.Prelude.{Some, Result, Ok, Err}
use Rattle.std.specs.List.{AllByRecursion}
use Rattle.std.specs.Option.{option_map_or}
use Rattle.fixed_num.specs.declared.value.BodyState.{BodyState}
use Rattle.fixed_num.specs.declared.value.Value.{Value}
use Rattle.cm_document.specs.Places.{Interface, Whose, of_joint, of_controller, interfaces_of}
use Rattle.cm_document.specs.declared.description.CompDesc.{CompDesc}
use Rattle.cm_document.specs.declared.life.Life.{Life}
use Rattle.cm_document.specs.declared.life.Life.TheVariants.{Unconfigured}
use Rattle.cm_model.specs.Components.{write_runs, is_available, has_move, is_listed, read_succeeds, read_fails}
use Rattle.cm_model.specs.Components.{measured_states, state_interfaces, command_interfaces}
use Rattle.cm_model.specs.State.{State}
use Rattle.cm_model.specs.Values.{InterfaceValue}
use Rattle.cm_storage.specs.declared.record.FailedPart.{FailedPart}
use Rattle.hw_component.specs.Hardware.{Hardware, after_write, after_step, after_move}
use Rattle.hw_component.specs.declared.faults.HwFault.{HwFault}
use Rattle.hw_component.specs.declared.faults.HwFault.TheVariants.{NoSuchMove}
use Rattle.loan_board.specs.Loans.{IsSound, idle, set, made_available, loan_at, with_loan}
use Rattle.loan_board.specs.declared.board.Loan.{Loan}

-- what the board keeps of an interface, by who owns which and which are available
abbrev pub loan_of : (Interface → Option ℕ) → (Interface → Bool) → InterfaceValue → Loan
loan_of own there v = record {
  value = v.value;
  owner = own v.interface;
  is_command = v.interface.called.is_command;
  is_available = there v.interface;
}

-- a component at work, and whether its read or its write failed in the cycle that is aloft
pub record Mounted : Type 0 where
  pub hardware : Hardware
  pub failed : Bool

-- components at work, and the board on which their interfaces stand, with the component of each place
pub record Wired : Type 0 where
  pub components : List Mounted
  pub loans : List Loan
  pub places : List (Option ℕ)

-- how many state interfaces a component has
abbrev pub states_count : Mounted → ℕ
states_count m = length (state_interfaces m.hardware.description)

-- those of all
abbrev pub all_states : List Mounted → ℕ
all_states [] = 0
all_states (m ∷ ms) = states_count m + all_states ms

-- ---- Reads

-- these values are set, from this place on
abbrev pub with_values : List Loan → ℕ → List Value → List Loan
with_values loans at [] = loans
with_values loans at (v ∷ vs) = with_values (with_loan loans at (set v)) (at + 1) vs

-- its read fails in this cycle
abbrev pub fails_read : ℕ → Mounted → Bool
fails_read cycle m = read_fails m.hardware.description m.hardware.life cycle

-- a component after its read
abbrev pub read : ℕ → Mounted → Mounted
read cycle m = record m { failed = fails_read cycle m }

-- the board after the read of a component, whose state interfaces begin at this place
abbrev pub after_read_of : ℕ → ℕ → List Loan → Hardware → List Loan
after_read_of cycle at loans h =
    if read_succeeds h.description h.life cycle then with_values loans at (measured_states h.description h.bodies)
    else loans

-- and after the reads of components, one after the other
abbrev pub after_reads_of : ℕ → ℕ → List Loan → List Mounted → List Loan
after_reads_of cycle at loans [] = loans
after_reads_of cycle at loans (m ∷ ms) =
    after_reads_of cycle (at + states_count m) (after_read_of cycle at loans m.hardware) ms

-- what is told of a component at this place whose read failed, or else its write; nothing where none did
abbrev pub failure : ℕ → Bool → Bool → List FailedPart
failure place reading true = record { place = place; reading = reading } ∷ []
failure place reading false = []

-- what is told of those that failed so, of components the first of which stands at this place
abbrev pub failures : Bool → (Mounted → Bool) → ℕ → List Mounted → List FailedPart
failures reading fails place [] = []
failures reading fails place (m ∷ ms) = failure place reading (fails m) ++ failures reading fails (place + 1) ms

-- 1 where it is so
abbrev pub one_if : Bool → ℕ
one_if true = 1
one_if false = 0

-- of how many components this holds
abbrev pub count : (Mounted → Bool) → List Mounted → ℕ
count holds [] = 0
count holds (m ∷ ms) = one_if (holds m) + count holds ms

-- of the reads that failed
abbrev pub failed_reads : ℕ → ℕ → List Mounted → List FailedPart
failed_reads cycle place ms = failures true (fails_read cycle) place ms

-- ---- In a state

-- These components are those of the state: as described, in its lifecycle states and with its bodies; and its values
-- are those of the interfaces, each at its place.
pub record IsWired (s : State) (ms : List Mounted) : Type 0 where
  pub components : s.description.components ≡ map (λ m. m.hardware.description) ms
  pub lives : s.lives ≡ map (λ m. m.hardware.life) ms
  pub bodies : s.bodies ≡ flat_map (λ m. m.hardware.bodies) ms
  pub joints : AllByRecursion (λ m. length m.hardware.bodies ≡ length m.hardware.description.joints) ms
  pub interfaces : map (λ v. v.interface) s.values ≡ interfaces_of s.description

-- ---- Writes

-- how many command interfaces a component has
abbrev pub commands_count : Mounted → ℕ
commands_count m = length (command_interfaces m.hardware.description)

-- those of all
abbrev pub all_commands : List Mounted → ℕ
all_commands [] = 0
all_commands (m ∷ ms) = commands_count m + all_commands ms

-- what the board holds at so many places, from this one on
abbrev pub values_at : List Loan → ℕ → ℕ → List Value
values_at loans at zero = []
values_at loans at (suc n) = (loan_at loans at).value ∷ values_at loans (at + 1) n

-- its turn to be written comes: it is active, and its read of that cycle did not fail
abbrev pub is_due : Mounted → Bool
is_due m = write_runs m.hardware.life && not m.failed

-- its write fails in this cycle
abbrev pub fails_write : ℕ → Mounted → Bool
fails_write cycle m = is_due m && is_listed m.hardware.description.fail_write cycle

-- a component after its write, with what the board holds from its first command interface on
abbrev pub written : ℕ → ℕ → List Loan → Mounted → Mounted
written cycle at loans m =
    if is_due m then record {
      hardware = after_write m.hardware cycle (values_at loans at (commands_count m));
      failed = is_listed m.hardware.description.fail_write cycle;
    }
    else m

-- components after their writes, the first of which has its first command interface at this place
abbrev pub all_written : ℕ → ℕ → List Loan → List Mounted → List Mounted
all_written cycle at loans [] = []
all_written cycle at loans (m ∷ ms) = written cycle at loans m ∷ all_written cycle (at + commands_count m) loans ms

-- what is told of the writes that failed
abbrev pub failed_writes : ℕ → ℕ → List Mounted → List FailedPart
failed_writes cycle place ms = failures false (fails_write cycle) place ms

-- its description lists a cycle in which its read or its write fails
abbrev pub can_fail : CompDesc → Bool
can_fail c = not (length c.fail_read == 0) || not (length c.fail_write == 0)

-- How many failures a cycle can tell: one of each component that can fail.
abbrev pub most_failures : List Mounted → ℕ
most_failures ms = count (λ m. can_fail m.hardware.description) ms

-- ---- Steps

-- a component after a step of its bodies
abbrev pub stepped_on : ℕ → Mounted → Mounted
stepped_on dt_us m = record m { hardware = after_step m.hardware dt_us }

-- the bodies of all joints
abbrev pub all_bodies : List Mounted → List BodyState
all_bodies ms = flat_map (λ m. m.hardware.bodies) ms

-- how many joints all components have
abbrev pub all_joints : List Mounted → ℕ
all_joints [] = 0
all_joints (m ∷ ms) = length m.hardware.description.joints + all_joints ms

-- none has 2^32 joints
abbrev pub AreFew : List Mounted → Type 0
AreFew ms = AllByRecursion (λ m. length m.hardware.description.joints < 2 ^ 32) ms

-- ---- Failures

-- nobody claims any interface
abbrev pub AreFree : List Loan → Type 0
AreFree loans = AllByRecursion (λ loan. loan.owner ≡ None) loans

-- what is claimed is a command interface or a reference, and available
abbrev pub AreSound : List Loan → Type 0
AreSound loans = AllByRecursion IsSound loans

-- an interface of a component that is not there any more: nobody claims it, and it is unavailable and Unset
abbrev pub vacated : Loan → Loan
vacated loan = idle loan.is_command

-- the component whose an interface is; none where a controller exports it
abbrev pub component_of : Whose → Option ℕ
component_of (of_joint component joint) = Some component
component_of (of_controller place) = None

-- a component that failed goes to its state on error
abbrev pub after_failure : Mounted → Mounted
after_failure m = if m.failed then record {
  hardware = after_move m.hardware m.hardware.description.on_error;
  failed = false;
} else m

-- it failed, and in its state on error its interfaces are not available
abbrev pub leaves : Mounted → Bool
leaves m = m.failed && not (is_available m.hardware.description.on_error)

-- the component of this place does so; no controller does
abbrev pub has_left : List Mounted → Option ℕ → Bool
has_left ms None = false
has_left ms (Some place) = option_map_or leaves (slice_get ms place) false

-- Places one after the other, the first of which is this one, each with its component: those that pass the test change
-- so.
abbrev pub changed_where : (Option ℕ → Bool) → (Loan → Loan) → ℕ → List (Option ℕ) → List Loan → List Loan
changed_where test change at [] loans = loans
changed_where test change at (c ∷ cs) loans =
    changed_where test change (at + 1) cs (if test c then with_loan loans at change else loans)

-- The interfaces of those that leave become free, unavailable and Unset; these are the components of the places from
-- this one on.
abbrev pub after_failures_of : List Mounted → ℕ → List (Option ℕ) → List Loan → List Loan
after_failures_of ms at cs loans = changed_where (has_left ms) vacated at cs loans

-- ---- Moves

-- the lifecycle state of the component at this place
abbrev pub life_in : ℕ → List Mounted → Life
life_in place ms = option_map_or (λ m. m.hardware.life) (slice_get ms place) Unconfigured

-- the one at this place moves, where it can
abbrev pub moved_at : ℕ → Life → List Mounted → List Mounted
moved_at place target [] = []
moved_at zero target (m ∷ ms) = record m { hardware = after_move m.hardware target } ∷ ms
moved_at (suc place) target (m ∷ ms) = m ∷ moved_at place target ms

-- whether it can
abbrev pub move_answer : ℕ → Life → List Mounted → Result (Unit {0}) HwFault
move_answer place target ms = if has_move (life_in place ms) target then Ok tt else Err NoSuchMove

-- a place is of this component; one of no component is not
abbrev pub is_of : ℕ → Option ℕ → Bool
is_of component None = false
is_of component (Some place) = place == component

-- what the component at this place measures
abbrev pub measured_in : ℕ → List Mounted → List Value
measured_in place ms =
    option_map_or (λ m. measured_states m.hardware.description m.hardware.bodies) (slice_get ms place) []

-- its state interfaces hold that
abbrev pub measured_of : ℕ → List Mounted → List Loan → List Loan
measured_of place ms loans = with_values loans (all_states (take place ms)) (measured_in place ms)

-- What the board holds after the move of a component, whose interfaces were available before or not: where they are not
-- then, they are free and Unset; where they were not and are then, the state interfaces hold what it measures.
abbrev pub settled : ℕ → Bool → List Mounted → List (Option ℕ) → List Loan → List Loan
settled place had ms cs loans =
    if is_available (life_in place ms) then
    (if had then loans else measured_of place ms (changed_where (is_of place) (made_available true) 0 cs loans))
    else changed_where (is_of place) vacated 0 cs loans

-- the hardware after the move of the component at this place; nothing changes where there is no such move
abbrev pub after_move_at : ℕ → Life → Wired → Wired
after_move_at place target w =
    if has_move (life_in place w.components) target then record w {
      components = moved_at place target w.components;
      loans =
          settled place (is_available (life_in place w.components)) (moved_at place target w.components) w.places
          w.loans;
    } else w

-- ---- A cycle

-- the board after the reads of a cycle
abbrev pub loans_read : ℕ → Wired → List Loan
loans_read cycle w = after_reads_of cycle 0 w.loans w.components

-- the hardware after them
abbrev pub after_reads_in : ℕ → Wired → Wired
after_reads_in cycle w = record w { components = map (read cycle) w.components; loans = loans_read cycle w }

-- the components when they were written and their bodies stepped
abbrev pub components_run : ℕ → ℕ → Wired → List Mounted
components_run cycle dt_us w = map (stepped_on dt_us) (all_written cycle (all_states w.components) w.loans w.components)

-- the hardware after the cycle, when those that failed went to their states on error
abbrev pub after_run : ℕ → ℕ → Wired → Wired
after_run cycle dt_us w = record {
  components = map after_failure (components_run cycle dt_us w);
  loans = after_failures_of (components_run cycle dt_us w) 0 w.places w.loans;
  places = w.places;
}

-- How many writes are to fail in a cycle, when the components were read.
abbrev pub writes_to_fail : ℕ → List Mounted → ℕ
writes_to_fail cycle ms = count (fails_write cycle) ms

-- As many failures can be told, and of as many bodies: a cycle changes nothing of what is described.
pub record IsSameBuild (before after : Wired) : Type 0 where
  pub failures : most_failures after.components ≡ most_failures before.components
  pub joints : all_joints after.components ≡ all_joints before.components

-- ---- What is kept

-- The command interfaces of all components follow their state interfaces, the first of them at this place; the numbers
-- of components and of a component's joints have 32 bits; each place has its component told; and what is claimed is
-- available.
pub record IsManaged (first_command : ℕ) (w : Wired) : Type 0 where
  pub first : first_command ≡ all_states w.components
  pub fits : first_command + all_commands w.components ≤ length w.loans
  pub places : length w.places ≡ length w.loans
  pub few : length w.components < 2 ^ 32
  pub joints : AreFew w.components
  pub sound : AreSound w.loans
