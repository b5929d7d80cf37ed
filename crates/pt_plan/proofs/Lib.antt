pub mod CameLemmas
pub mod DrewLemmas
pub mod OpenLemmas
pub mod KeptLemmas
pub mod MarkLemmas
pub mod EveryLemmas
pub mod StandsLemmas
pub mod SaysLemmas
