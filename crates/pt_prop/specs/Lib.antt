pub mod Property
pub mod Noted
