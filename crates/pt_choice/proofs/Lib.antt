pub mod Admitted
pub mod OrderLemmas
pub mod SameLemmas
