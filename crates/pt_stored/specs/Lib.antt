pub mod Digest
pub mod Entries
pub mod Example
pub mod Stored
