pub mod Item
pub mod Check
pub mod Noted
