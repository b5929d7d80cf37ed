pub mod EnabledLemmas
pub mod StepLemmas
