pub mod Shaped
pub mod SameLaws
pub mod EnvLemmas
pub mod LabelLemmas
pub mod TypeLaws
pub mod WalkLemmas
