pub mod CheckLemmas
pub mod GivensLemmas
