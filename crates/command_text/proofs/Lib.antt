pub mod CountLemmas
pub mod LineLemmas
pub mod WordLemmas
