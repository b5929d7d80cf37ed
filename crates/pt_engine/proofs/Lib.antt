mod CountLemmas
mod LeastLemmas
mod OnceLemmas
pub mod AgreeLemmas
