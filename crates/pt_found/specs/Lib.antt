pub mod Tried
pub mod Trail
pub mod Leap
