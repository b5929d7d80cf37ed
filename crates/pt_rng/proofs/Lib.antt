pub mod Steps
pub mod Admitted
