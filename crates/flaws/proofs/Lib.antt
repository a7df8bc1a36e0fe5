pub mod AlikeLemmas
pub mod CellLemmas
