pub mod Stacks
pub mod Tables
pub mod Known
pub mod Codes
pub mod Says
pub mod Numbers
pub mod Bases
pub mod Answer
