pub mod Progress
pub mod Outcome
pub mod Sweep
pub mod Block
pub mod Proposed
