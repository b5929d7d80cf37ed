mod EndingLemmas
mod FirstsLemmas
mod CountLemmas
mod WindowLemmas
mod ReducedLemmas
mod OriginLemmas
mod SurveyLemmas
mod OnceLemmas
