pub mod Growth
pub mod Lookups
pub mod Views
pub mod Tuples
pub mod Turns
pub mod StratTurns
pub mod MachineTurns
pub mod Whole
