pub mod ListingLemmas
mod MarkLines
