pub mod HexLemmas
pub mod TypingLemmas
