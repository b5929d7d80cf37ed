pub mod Attaching
pub mod Gathering
pub mod Reading
pub mod Saving
pub mod Telling
pub mod Writing
