pub mod Sort
pub mod Others
pub mod Replaced
pub mod Mark
pub mod Together
pub mod Tally
