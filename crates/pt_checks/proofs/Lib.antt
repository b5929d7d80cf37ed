pub mod CounterLemmas
pub mod NameLemmas
