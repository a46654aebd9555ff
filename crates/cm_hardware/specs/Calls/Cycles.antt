-- What the parts of a cycle ask and what they leave. Times are in microseconds. The failures and the bodies that are
-- told go into rooms that are there.
use Rattle.std.specs.Prelude.{◌≡◌, ℕ, ◌+◌, ◌<◌, ◌≤◌, ◌^◌, List, ◌++◌, length, map}
use Rattle.sequence.specs.Room.{Room}
use Rattle.fixed_num.specs.declared.value.BodyState.{BodyState}
use Rattle.joint_body.specs.declared.TheConstants.{LONGEST_STEP}
use Rattle.cm_model.specs.Cycle.{period}
use Rattle.cm_model.specs.State.{State}
use Rattle.cm_storage.specs.declared.record.FailedPart.{FailedPart}
use Rattle.loan_board.specs.declared.board.Loan.{Loan}
use Rattle.cm_hardware.specs.Wiring.{Mounted, Wired, read, all_states, after_reads_of, failed_reads, fails_read}
use Rattle.cm_hardware.specs.Wiring.{all_commands, fails_write, failed_writes, count, most_failures, all_joints}
use Rattle.cm_hardware.specs.Wiring.{all_bodies, components_run, after_run, AreFew, AreSound, IsSameBuild}
use Rattle.cm_hardware.specs.Holding.{IsInCycle, values_updated, FinishedCycle}

-- ---- Components, one after the other

-- They can be read: the board has a place for each of their state interfaces, the number of each has 32 bits, and there
-- is room to tell of the reads that fail.
pub record CanRead (cycle : ℕ) (ms : List Mounted) (loans : List Loan) (told : Room FailedPart) : Type 0 where
  pub places : all_states ms ≤ length loans
  pub few : length ms < 2 ^ 32
  pub room : count (fails_read cycle) ms ≤ told.room

-- They are read: the board holds what they measure, and each read that failed is told and takes no more room than that.
pub record HasRead (cycle : ℕ) (ms ms' : List Mounted) (loans loans' : List Loan) (told told' : Room FailedPart) : Type
    0 where
  pub board : loans' ≡ after_reads_of cycle 0 loans ms
  pub units : ms' ≡ map (read cycle) ms
  pub failed : told'.items ≡ told.items ++ failed_reads cycle 0 ms
  pub room : told.room ≤ told'.room + count (fails_read cycle) ms

-- They can be written: the board has a place for each of their command interfaces, from this one on, the number of each
-- has 32 bits, and there is room to tell of the writes that fail.
pub record CanWrite (cycle first : ℕ) (ms : List Mounted) (loans : List Loan) (told : Room FailedPart) : Type 0 where
  pub places : first + all_commands ms ≤ length loans
  pub few : length ms < 2 ^ 32
  pub room : count (fails_write cycle) ms ≤ told.room

-- The bodies of one of them can go on for so long, and there is room to tell of them.
pub record CanStep (dt_us : ℕ) (m : Mounted) (told : Room BodyState) : Type 0 where
  pub some_time : 1 ≤ dt_us
  pub no_longer : dt_us ≤ LONGEST_STEP
  pub few : length m.hardware.description.joints < 2 ^ 32
  pub room : length m.hardware.description.joints ≤ told.room

-- So can those of all.
pub record CanStepEach (dt_us : ℕ) (ms : List Mounted) (told : Room BodyState) : Type 0 where
  pub some_time : 1 ≤ dt_us
  pub no_longer : dt_us ≤ LONGEST_STEP
  pub few : AreFew ms
  pub room : all_joints ms ≤ told.room

-- ---- The hardware as one

-- A cycle can be so long, and there is room for as many failures as it can tell, and for the body of each joint.
pub record CanCycle (dt_us : ℕ) (w : Wired) (failed : Room FailedPart) (bodies : Room BodyState) : Type 0 where
  pub some_time : 1 ≤ dt_us
  pub no_longer : dt_us ≤ LONGEST_STEP
  pub failures : most_failures w.components ≤ failed.room
  pub joints : all_joints w.components ≤ bodies.room

-- The end of a cycle of this number, by the state whose hardware it is in the cycle; the build stays.
pub record Finishes (number dt_us : ℕ) (w w' : Wired) (parts parts' : List FailedPart) (states states' : List BodyState)
    : Type 0 where
  pub finished : (s : State) → IsInCycle s (values_updated s) w → s.ended ≡ number → period s.description ≡ dt_us
      → FinishedCycle s w' parts parts' states states'
  pub build : IsSameBuild w w'

-- The same by its components: what it leaves, and what it tells of writes and of bodies. What was claimed was there.
pub record HasRun (number dt_us : ℕ) (w w' : Wired) (parts parts' : List FailedPart) (states states' : List BodyState) :
    Type 0 where
  pub hardware : w' ≡ after_run number dt_us w
  pub failed : parts' ≡ parts ++ failed_writes number 0 w.components
  pub bodies : states' ≡ states ++ all_bodies (components_run number dt_us w)
  pub sound : AreSound w.loans
