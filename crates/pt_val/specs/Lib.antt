pub mod Name
pub mod Size
pub mod Text
pub mod Typing
