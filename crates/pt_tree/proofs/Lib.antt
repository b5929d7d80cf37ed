pub mod AboveLemmas
pub mod CountingLemmas
pub mod AnswerLemmas
