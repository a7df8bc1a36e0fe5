pub mod ColourLemmas
pub mod GridLemmas
pub mod NoteLemmas
