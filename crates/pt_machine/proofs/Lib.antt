pub mod ListLemmas
pub mod EnabledLemmas
pub mod StepLemmas
pub mod NotedLaws
