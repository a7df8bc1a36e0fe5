pub mod AssessLemmas
pub mod CheckLemmas
pub mod OpenLemmas
pub mod ProveLemmas
