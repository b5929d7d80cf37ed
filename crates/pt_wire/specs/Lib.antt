pub mod Spelling
pub mod Leb128
pub mod Limits
pub mod Stored
pub mod Unpacked
pub mod Number
pub mod Printed
pub mod Answer
