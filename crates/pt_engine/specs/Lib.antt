pub mod Outcome
pub mod Finding
pub mod Agree
pub mod Progress
