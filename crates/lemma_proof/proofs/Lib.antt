pub mod FormLemmas
pub mod MakingLemmas
pub mod NumberLemmas
