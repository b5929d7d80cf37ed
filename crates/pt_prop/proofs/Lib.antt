pub mod NotesLemmas
pub mod RecordLemmas
pub mod NotedLaws
