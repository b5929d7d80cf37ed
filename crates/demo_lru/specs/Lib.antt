pub mod Command
pub mod Listed
pub mod Cache
pub mod Hexed
pub mod LeapYears
pub mod Pieces
