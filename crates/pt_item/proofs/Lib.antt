pub mod ItemLemmas
pub mod NamedLemmas
mod NotesLemmas
pub mod Shared
