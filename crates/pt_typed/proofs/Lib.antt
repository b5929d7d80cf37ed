pub mod DrawLemmas
pub mod FilterLemmas
pub mod IntsLemmas
pub mod ListLemmas
pub mod NoteLemmas
pub mod PairLemmas
pub mod ReadingLemmas
pub mod SampledLemmas
