pub mod Meaning
pub mod Stepped
pub mod Machine
