pub mod Attaching
pub mod Editing
pub mod Reading
pub mod Refusals
pub mod Writing
