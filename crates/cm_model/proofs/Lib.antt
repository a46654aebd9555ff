pub mod BlankLemmas
pub mod AdvanceLemmas
pub mod LegalLemmas
pub mod StayLemmas
pub mod HistoryLemmas
pub mod WaitingLemmas
pub mod ComesLemmas
pub mod FollowedLemmas
pub mod WholeRunLemmas
pub mod WholeLemmas
pub mod EnabledLemmas
pub mod CountLemmas
mod Rows
pub mod KindLemmas
pub mod ControllerLemmas
pub mod StillLemmas
pub mod QuietLemmas
pub mod UpdateLemmas
mod KindRows
mod ComponentRows
mod WorkedSwitches
mod SwitchRows
mod CycleRows
mod UpdateRows
pub mod LoadedLemmas
pub mod InterfaceLemmas
pub mod CommitLemmas
pub mod MoveLemmas
pub mod SteadyLemmas
mod WorkedCalls
mod Worked
mod WorkedLift
mod LiftSwitchRows
mod LiftRows
mod BoundaryRows
mod FallbackRows
mod ScheduleRows
mod StepRows
mod SoundRows
mod MomentRows
mod CountRows
mod ConsoleRows
pub mod RangedLemmas
pub mod LinkedLemmas
