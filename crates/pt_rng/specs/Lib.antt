pub mod Words
pub mod Supplied
pub mod Source
