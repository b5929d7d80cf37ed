pub mod TrailLemmas
pub mod LeapLemmas
pub mod VainLemmas
pub mod TableLemmas
