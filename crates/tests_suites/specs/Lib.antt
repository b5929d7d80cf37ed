pub mod Samples
pub mod Manual
