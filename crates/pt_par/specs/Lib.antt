pub mod Least
pub mod Stretch
