pub mod Asked
pub mod FileNames
pub mod Steps
pub mod Untold
