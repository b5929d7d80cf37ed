pub mod Command
pub mod Ends
pub mod Explaining
pub mod Message
pub mod Words
