pub mod Gap
pub mod Mark
pub mod Number
pub mod Text
pub mod Word
