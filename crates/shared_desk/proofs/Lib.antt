mod TurnLemmas
mod LoopLemmas
mod ShareLemmas
mod HomeLemmas
mod PortLemmas
pub mod Crossing
pub mod PortCrossing
