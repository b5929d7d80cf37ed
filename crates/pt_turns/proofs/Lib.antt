mod AgainLemmas
mod AgreeLemmas
mod BlockLemmas
mod CountLemmas
pub mod CrashLemmas
mod EndedLemmas
mod ExaminedLemmas
pub mod ExitLemmas
mod FinishLemmas
mod KeptLemmas
mod LeftLemmas
mod OnwardLemmas
mod OwnLemmas
mod ReadyLemmas
mod ReasonLemmas
mod SameReadings
mod SettledLemmas
pub mod SoundLemmas
mod TurningLemmas
mod TurnsLemmas
