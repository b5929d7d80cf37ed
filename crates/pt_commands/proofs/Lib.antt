pub mod Asking
pub mod Entries
pub mod Made
pub mod Words
