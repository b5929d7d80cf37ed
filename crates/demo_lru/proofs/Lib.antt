mod NameLemmas
mod ChecksLemmas
mod CommandLemmas
mod PiecesLemmas
