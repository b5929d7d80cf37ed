pub mod Shown
pub mod Reading
pub mod Fail
pub mod Strategy
pub mod Plans
pub mod Property
pub mod Sets
pub mod Laws
