mod ProgressLemmas
mod AskedLemmas
mod BlockLemmas
mod SweepLemmas
