pub mod Steps
pub mod Types
pub mod Serving
pub mod Exprs
pub mod Names
pub mod Strats
pub mod Suites
pub mod Decided
