pub mod EffectLemmas
pub mod OtherLemmas
pub mod TallyLemmas
