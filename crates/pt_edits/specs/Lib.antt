pub mod Added
pub mod Clash
pub mod Differences
pub mod Made
pub mod Pairs
pub mod Readings
pub mod Short
pub mod Stops
