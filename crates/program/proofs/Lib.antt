pub mod AssessLemmas
pub mod CheckLemmas
pub mod EndLemmas
pub mod FileLemmas
pub mod ProveLemmas
pub mod RunLemmas
pub mod WorkLemmas
