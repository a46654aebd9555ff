pub mod LoopCallLemmas
pub mod SessionStandLemmas
pub mod StandLemmas
pub mod NextLemmas
pub mod LineStepLemmas
pub mod ReplayLoopLemmas
pub mod WordLemmas
pub mod CheckLemmas
