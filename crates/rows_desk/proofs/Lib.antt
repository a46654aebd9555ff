mod TableLemmas
mod Crossing
mod LoopPassLemmas
mod SessionLemmas
