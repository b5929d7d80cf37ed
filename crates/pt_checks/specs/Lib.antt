pub mod Checks
pub mod Counter
