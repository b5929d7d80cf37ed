pub mod Digests
pub mod EntryLemmas
pub mod NameLemmas
pub mod SetLemmas
