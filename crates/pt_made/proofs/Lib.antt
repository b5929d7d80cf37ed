pub mod Decimals
pub mod EachLine
pub mod Numbered
pub mod Sound
