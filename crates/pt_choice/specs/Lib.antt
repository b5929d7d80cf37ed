pub mod Faults
pub mod Hashing
pub mod Kind
pub mod Limits
pub mod Order
pub mod Same
pub mod formers
