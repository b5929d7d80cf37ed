pub mod Listing
pub mod Refusals
pub mod Report
pub mod Explaining
pub mod Sorts
