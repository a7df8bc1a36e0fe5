pub mod AheadLemmas
pub mod BranchLemmas
pub mod JudgeLemmas
pub mod MapLemmas
pub mod OrderLemmas
pub mod SpareLemmas
