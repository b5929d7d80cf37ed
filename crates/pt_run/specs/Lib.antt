pub mod Call
pub mod Ends
pub mod Outside
pub mod Suite
pub mod Crash
