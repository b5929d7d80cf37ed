pub mod World
pub mod Enabled
pub mod Machine
pub mod Noted
