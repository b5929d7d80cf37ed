pub mod BoxLemmas
pub mod NameLemmas
